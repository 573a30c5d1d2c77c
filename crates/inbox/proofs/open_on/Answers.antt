-- `inbox::open_on`: by the opening. Assumes nothing.
use mathlib.Core.Path.{◌≡◌, ap, ◌∙◌}
use Prim.Native.Nat.{◌+◌, ◌-◌}
use native.Mathlib.Omega.{arith}
use lib.ListN.{length, take, drop}
use Rattle.std.specs.Prelude.{Some}
use Rattle.wire.proofs.SpliceLaws.{part_length}
use Rattle.order.specs.Talk.{announced, own}
use Rattle.order.specs.Gauge.{narrowed}
use Rattle.sdo.specs.declared.Opening.{Opening}
use Rattle.sdo.specs.declared.Message.TheVariants.{OpenWrite}
use Rattle.sdo.proofs.HeardLaws.{value-count}
use Rattle.transfer.proofs.RecordLaws.{found-key}
use Rattle.inbox.proofs.Opening.{rest_whole, opening_value}
use Rattle.inbox.proofs.Asked.{said-value, said-own, said-announced, said-unsaid}
use Rattle.inbox.proofs.open_on.Goals as goal

pub overflow_add-bytes : goal.overflow_add-bytes
overflow_add-bytes c = omega (arith, value-count c.args.s.now c.args.k c.in-Value.count (c.requires.3 ∙ ap (λ (o : Opening). Some (OpenWrite c.args.k o)) c.in-Value.is))

pub slice_bounds-bytes-end : goal.slice_bounds-bytes-end
slice_bounds-bytes-end c = omega (arith, c.requires.2, value-count c.args.s.now c.args.k c.in-Value.count (c.requires.3 ∙ ap (λ (o : Opening). Some (OpenWrite c.args.k o)) c.in-Value.is))

pub write_sized-requires : goal.write_sized-requires
write_sized-requires c = (c.requires.0, (c.requires.1.0, found-key c.args.k c.args.row c.requires.1.1))

pub write_own-requires : goal.write_own-requires
write_own-requires c = (c.requires.0, (c.requires.1.0, found-key c.args.k c.args.row c.requires.1.1))

pub returns-in-Value : goal.returns-in-Value
returns-in-Value c =
    let e = c.requires.3 ∙ ap (λ (o : Opening). Some (OpenWrite c.args.k o)) c.in-Value.is in
    let most = value-count c.args.s.now c.args.k c.in-Value.count e in
    let n : 4 + c.in-Value.count - 4 ≡ c.in-Value.count = omega arith in
    let long : length (take c.in-Value.count (drop 4 c.args.s.now)) ≡ c.in-Value.count = part_length c.args.s.now 4 c.in-Value.count (omega (arith, most, c.requires.2)) in
    said-value c.args.at c.args.values.now c.args.block.now c.args.state.now c.args.room.now c.args.s.now c.args.k c.in-Value.count e
    (opening_value c.args.at c.args.values.now c.args.block.now c.args.state.now c.args.room.now c.args.k c.args.row c.requires.1.0 c.requires.1.1 (announced c.in-Value.count) (take c.in-Value.count (drop 4 c.args.s.now)) (rw (n, long) at c.write_sized.ensures))

pub returns-in-Own : goal.returns-in-Own
unfolding narrowed
returns-in-Own c =
    said-own c.args.at c.args.values.now c.args.block.now c.args.state.now c.args.room.now c.args.s.now c.args.k (c.requires.3 ∙ ap (λ (o : Opening). Some (OpenWrite c.args.k o)) c.in-Own.is)
    (opening_value c.args.at c.args.values.now c.args.block.now c.args.state.now c.args.room.now c.args.k c.args.row c.requires.1.0 c.requires.1.1 own (take 4 (drop 4 c.args.s.now)) c.write_own.ensures)

pub returns-in-Announced : goal.returns-in-Announced
returns-in-Announced c = said-announced c.args.at c.args.values.now c.args.block.now c.args.state.now c.args.room.now c.args.s.now c.args.k c.in-Announced.n (c.requires.3 ∙ ap (λ (o : Opening). Some (OpenWrite c.args.k o)) c.in-Announced.is) (rw (rest_whole c.args.s.now) at c.open_parts.ensures)

pub returns-in-Unsaid : goal.returns-in-Unsaid
returns-in-Unsaid c = said-unsaid c.args.at c.args.values.now c.args.block.now c.args.state.now c.args.room.now c.args.s.now c.args.k (c.requires.3 ∙ ap (λ (o : Opening). Some (OpenWrite c.args.k o)) c.in-Unsaid.is) (rw (rest_whole c.args.s.now) at c.open_parts-in-Unsaid.ensures)
