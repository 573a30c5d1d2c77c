-- `line::write::open_on`: by the opening. Assumes nothing.
use mathlib.Core.Path.{◌≡◌, ap, ◌∙◌}
use Prim.Native.Nat.{◌+◌, ◌-◌}
use lib.ListN.{length, take, drop}
use Rattle.wire.proofs.SpliceLaws.{part_length}
use native.Mathlib.Omega.{arith}
use Rattle.std.specs.Prelude.{Some}
use Rattle.sdo.specs.declared.Opening.{Opening}
use Rattle.sdo.specs.declared.Message.TheVariants.{OpenWrite}
use Rattle.sdo.proofs.HeardLaws.{value-count}
use Rattle.transfer.proofs.RecordLaws.{found-key}
use Rattle.table.specs.Rows.{at_row}
use Rattle.table.proofs.Table.{row_rule}
use Rattle.table.proofs.Lengths.{largest_is}
use Rattle.line.proofs.Told.{room_of}
use Rattle.line.proofs.Speaking.{said-value, said-own, said-announced, said-unsaid}
use Rattle.line.proofs.write.open_on.Goals as goal

pub overflow_add-bytes : goal.overflow_add-bytes
overflow_add-bytes c = omega (arith, value-count c.args.m.now c.args.k c.in-Value.count (c.requires.3 ∙ ap (λ (q : Opening). Some (OpenWrite c.args.k q)) c.in-Value.is))

pub slice_bounds-bytes-end : goal.slice_bounds-bytes-end
slice_bounds-bytes-end c = omega (arith, c.requires.2, value-count c.args.m.now c.args.k c.in-Value.count (c.requires.3 ∙ ap (λ (q : Opening). Some (OpenWrite c.args.k q)) c.in-Value.is))

pub write_sized-requires : goal.write_sized-requires
write_sized-requires c = (c.requires.0, (c.requires.1.0, found-key c.args.k c.args.row c.requires.1.1))

pub write_own-requires : goal.write_own-requires
write_own-requires c = (c.requires.0, (c.requires.1.0, found-key c.args.k c.args.row c.requires.1.1))

pub open_parts-requires : goal.open_parts-requires
open_parts-requires c = (room_of c.told-state c.requires.0, omega (arith, (row_rule c.args.row c.largest.ensures.row).most, largest_is (at_row c.args.row)))

pub returns-in-Value : goal.returns-in-Value
returns-in-Value c =
    let e = c.requires.3 ∙ ap (λ (q : Opening). Some (OpenWrite c.args.k q)) c.in-Value.is in
    let most = value-count c.args.m.now c.args.k c.in-Value.count e in
    let n : 4 + c.in-Value.count - 4 ≡ c.in-Value.count = omega arith in
    let long : length (take c.in-Value.count (drop 4 c.args.m.now)) ≡ c.in-Value.count = part_length c.args.m.now 4 c.in-Value.count (omega (arith, most, c.requires.2)) in
    said-value c.args.at c.args.values.now c.args.block.now c.args.state.now c.args.room.now c.args.m.now c.args.k c.args.row c.requires.1.0 c.requires.1.1 c.in-Value.count e (rw (n, long) at c.write_sized.ensures)

pub returns-in-Own : goal.returns-in-Own
returns-in-Own c =
    said-own c.args.at c.args.values.now c.args.block.now c.args.state.now c.args.room.now c.args.m.now c.args.k c.args.row c.requires.1.0 c.requires.1.1 (c.requires.3 ∙ ap (λ (q : Opening). Some (OpenWrite c.args.k q)) c.in-Own.is) c.write_own.ensures

pub returns-in-Announced : goal.returns-in-Announced
returns-in-Announced c =
    said-announced c.args.at c.args.values.now c.args.block.now c.args.state.now c.args.room.now c.args.m.now c.args.k c.args.row c.requires.1.0 c.requires.1.1 c.in-Announced.n (c.requires.3 ∙ ap (λ (q : Opening). Some (OpenWrite c.args.k q)) c.in-Announced.is) c.open_announced.ensures

pub returns-in-Unsaid : goal.returns-in-Unsaid
returns-in-Unsaid c =
    said-unsaid c.args.at c.args.values.now c.args.block.now c.args.state.now c.args.room.now c.args.m.now c.args.k c.args.row c.requires.1.0 c.requires.1.1 (c.requires.3 ∙ ap (λ (q : Opening). Some (OpenWrite c.args.k q)) c.in-Unsaid.is) (rw c.largest.ensures.largest at c.open_parts.ensures)
