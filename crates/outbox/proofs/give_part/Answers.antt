-- `outbox::give_part`: each return is one law, given what the calls ensure. Assumes nothing.
use mathlib.Core.Path.{◌≡◌, refl}
use native.Mathlib.Omega.{arith}
use lib.ListN.{length}
use borrow.Author.Rules.{rules}
use Rattle.outbox.proofs.Reading.{box_few, box_many}
use Rattle.outbox.proofs.give_part.Goals as goal

pub returns-then-left-le-PART : goal.returns-then-left-le-PART
returns-then-left-le-PART c =
    let h : length c.args.t.held ≡ 64 = search rules in
    box_few c.args.at c.args.state.now c.args.room.now c.args.t h c.requires.2 c.requires.3 (omega arith) c.part_last-eight.ensures c.ended.ensures

pub returns : goal.returns
returns c =
    let h : length c.args.t.held ≡ 64 = search rules in
    box_many c.args.at c.args.state.now c.args.room.now c.args.t h c.requires.2 c.requires.3 refl (omega arith) (omega (arith, c.last_head.ensures)) c.requires.1 c.clear_record.ensures c.put.ensures c.copy_at.ensures refl
