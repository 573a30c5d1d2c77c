-- `write` is `with_card`: one point after the other; an enable is one bit wide.
use native.Mathlib.Omega.{arith}
use Rattle.card.specs.Card.{point_1, point_2, with_card}
use Rattle.card.proofs.Fields.{fields_lt}
use Rattle.enter.proofs.write.Goals as goal

pub write_point-requires : goal.write_point-requires
write_point-requires c =
    rw c.fields_1.ensures (omega arith, fields_lt c.args.card.now point_1 0, fields_lt c.args.card.now point_1 1)

pub write_point-requires-2 : goal.write_point-requires-2
write_point-requires-2 c =
    rw c.fields_2.ensures (omega arith, fields_lt c.args.card.now point_2 0, fields_lt c.args.card.now point_2 1)

pub returns : goal.returns
unfolding with_card
returns c = cc
