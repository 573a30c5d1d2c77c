-- `line::speak`: by the message. Assumes nothing.
use mathlib.Core.Path.{◌≡◌, ap, ◌∙◌}
use Prim.Native.Nat.{◌+◌, ◌-◌}
use native.Mathlib.Omega.{arith}
use Rattle.std.specs.Prelude.{Some}
use Rattle.sdo.proofs.HeardLaws.{part_count}
use Rattle.line.proofs.Speaking.{said-part, said_read, said-next, said-unknown}
use Rattle.line.proofs.speak.Goals as goal

pub overflow_add-part : goal.overflow_add-part
overflow_add-part c = omega (arith, part_count c.args.m.now c.in-SendPart.toggle c.in-SendPart.count c.in-SendPart.last (c.requires.2 ∙ ap Some c.in-SendPart.is))

pub slice_bounds-part-end : goal.slice_bounds-part-end
slice_bounds-part-end c = omega (arith, c.requires.1, part_count c.args.m.now c.in-SendPart.toggle c.in-SendPart.count c.in-SendPart.last (c.requires.2 ∙ ap Some c.in-SendPart.is))

pub returns-in-SendPart : goal.returns-in-SendPart
returns-in-SendPart c =
    let n : 1 + c.in-SendPart.count - 1 ≡ c.in-SendPart.count = omega arith in
    said-part c.args.at c.args.values.now c.args.block.now c.args.state.now c.args.room.now c.args.m.now c.in-SendPart.toggle c.in-SendPart.count c.in-SendPart.last (c.requires.2 ∙ ap Some c.in-SendPart.is) (rw n at c.send_part.ensures)

pub returns-in-OpenRead : goal.returns-in-OpenRead
returns-in-OpenRead c =
    said_read c.args.at c.args.values.now c.args.block.now c.args.state.now c.args.room.now c.args.m.now c.in-OpenRead.k (c.requires.2 ∙ ap Some c.in-OpenRead.is) c.open_read.ensures

pub returns-in-NextPart : goal.returns-in-NextPart
returns-in-NextPart c =
    said-next c.args.at c.args.values.now c.args.block.now c.args.state.now c.args.room.now c.args.m.now c.in-NextPart.toggle (c.requires.2 ∙ ap Some c.in-NextPart.is) c.next_part.ensures

pub returns-in-Unknown : goal.returns-in-Unknown
returns-in-Unknown c =
    said-unknown c.args.at c.args.values.now c.args.block.now c.args.state.now c.args.room.now c.args.m.now (c.requires.2 ∙ ap Some c.in-Unknown.is) c.no_transfer.ensures c.ended.ensures
