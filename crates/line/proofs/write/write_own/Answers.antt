-- `line::write::write_own`: each return is one law, given what the calls ensure. Assumes nothing.
use mathlib.Core.Path.{refl, ap, ◌∙◌}
use Prim.Native.Nat.{ℕ}
use native.Mathlib.Omega.{arith}
use lib.ListN.{take}
use lib.Seq.{length-take-le}
use Rattle.table.specs.Rows.{at_row}
use Rattle.table.specs.Row.{largest}
use Rattle.table.proofs.Lengths.{largest_is, room-allowed}
use Rattle.line.proofs.Writing.{own-refused, own-right}
use Rattle.line.proofs.write.write_own.Goals as goal

pub returns-then-bytes-len : goal.returns-then-bytes-len
returns-then-bytes-len c =
    own-refused c.args.at c.args.values.now c.args.block.now c.args.state.now c.args.room.now c.args.k c.args.bytes.now (largest (at_row c.args.row)) refl (omega arith) (rw c.into.ensures at c.refused.ensures)

pub with_value-requires : goal.with_value-requires
with_value-requires c =
    (c.requires.0, c.requires.1, room-allowed (at_row c.args.row) (length-take-le c.largest-len.result c.args.bytes.now c.if-bytes-len.false ∙ c.largest-len.ensures.largest ∙ largest_is (at_row c.args.row)))

pub returns : goal.returns
returns c =
    own-right c.args.at c.args.values.now c.args.block.now c.args.state.now c.args.room.now c.args.k c.args.bytes.now (largest (at_row c.args.row)) (ap (λ (n : ℕ). take n c.args.bytes.now) c.largest-len.ensures.largest)
    (length-take-le c.largest-len.result c.args.bytes.now c.if-bytes-len.false ∙ c.largest-len.ensures.largest) c.with_value.ensures
