-- `post::speak`: by what is said. Assumes nothing.
use mathlib.Core.Path.{◌≡◌, ap, ◌∙◌}
use Prim.Native.Nat.{◌+◌, ◌-◌}
use native.Mathlib.Omega.{arith}
use Rattle.std.specs.Prelude.{Some}
use Rattle.sdo.proofs.HeardLaws.{part_count}
use Rattle.outbox.proofs.Reading.{eight_fits}
use Rattle.inbox.proofs.Asked.{opening_length}
use Rattle.post.proofs.Speaking.{said-part, said_read, said-next, said-unknown}
use Rattle.post.proofs.speak.Goals as goal

pub part_count-count-requires : goal.part_count-count-requires
part_count-count-requires c =
    (c.requires.2, part_count c.args.s.now c.in-SendPart.toggle c.in-SendPart.used c.in-SendPart.last (c.requires.3 ∙ ap Some c.in-SendPart.is))

pub returns-in-SendPart : goal.returns-in-SendPart
returns-in-SendPart c =
    let n : 1 + c.part_count-count.result - 1 ≡ c.part_count-count.result = omega arith in
    said-part c.args.at c.args.values.now c.args.block.now c.args.state.now c.args.room.now c.args.s.now c.in-SendPart.toggle c.in-SendPart.used c.in-SendPart.last (c.requires.3 ∙ ap Some c.in-SendPart.is) c.part_count-count.ensures.0 (rw n at c.send_part.ensures)

pub returns-in-OpenWrite : goal.returns-in-OpenWrite
returns-in-OpenWrite c =
    (c.open_write.ensures, opening_length c.args.at c.args.values.now c.args.block.now c.args.state.now c.args.room.now c.args.s.now c.in-OpenWrite.k c.in-OpenWrite.opening (c.requires.3 ∙ ap Some c.in-OpenWrite.is), eight_fits)

pub returns-in-OpenRead : goal.returns-in-OpenRead
returns-in-OpenRead c = said_read c.args.at c.args.values.now c.args.block.now c.args.state.now c.args.room.now c.args.s.now c.in-OpenRead.k (c.requires.3 ∙ ap Some c.in-OpenRead.is) c.open_read.ensures

pub returns-in-NextPart : goal.returns-in-NextPart
returns-in-NextPart c = said-next c.args.at c.args.values.now c.args.block.now c.args.state.now c.args.room.now c.args.s.now c.in-NextPart.toggle (c.requires.3 ∙ ap Some c.in-NextPart.is) c.next_part.ensures

pub returns-in-Unknown : goal.returns-in-Unknown
returns-in-Unknown c = said-unknown c.args.at c.args.values.now c.args.block.now c.args.state.now c.args.room.now c.args.s.now (c.requires.3 ∙ ap Some c.in-Unknown.is) c.no_transfer.ensures c.ended.ensures
