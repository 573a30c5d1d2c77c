-- `line::write::open_announced`: each return is one law, given what the calls ensure. Assumes nothing.
use mathlib.Core.Path.{ap₂, ◌∙◌}
use mathlib.Core.Bool.{true, false}
use mathlib.Core.List.{[]}
use Rattle.order.specs.Gauge.{by_length}
use Prim.Native.Nat.{ℕ}
use native.Mathlib.Omega.{arith}
use Rattle.table.specs.Rows.{at_row}
use Rattle.table.specs.Row.{smallest, largest}
use Rattle.table.proofs.Table.{row_rule}
use Rattle.table.proofs.Lengths.{largest_is}
use Rattle.line.proofs.Writing.{within, announced-refused, announced-right}
use Rattle.line.proofs.write.open_announced.Goals as goal

pub returns-then-length_fits : goal.returns-then-length_fits
returns-then-length_fits c =
    announced-right c.args.at c.args.state.now c.args.room.now c.args.k c.args.row [] (smallest (at_row c.args.row)) (largest (at_row c.args.row)) c.args.n (c.length_fits.ensures ∙ ap₂ (λ (l h : ℕ). by_length l h c.args.n (λ code. false) true) c.smallest.ensures.smallest c.largest-high.ensures.largest) c.if-length_fits.true c.open_parts.ensures

pub returns : goal.returns
returns c =
    announced-refused c.args.at c.args.state.now c.args.room.now c.args.k c.args.row [] (smallest (at_row c.args.row)) (largest (at_row c.args.row)) c.args.n (c.length_fits.ensures ∙ ap₂ (λ (l h : ℕ). by_length l h c.args.n (λ code. false) true) c.smallest.ensures.smallest c.largest-high.ensures.largest) c.if-length_fits.false (rw c.largest-high.ensures.largest at c.misfit.ensures)

pub open_parts-requires : goal.open_parts-requires
open_parts-requires c =
    let in-range = within _ _ _ c.length_fits.ensures c.if-length_fits.true in
    (c.requires, omega (arith, (row_rule c.args.row c.largest-high.ensures.row).most, largest_is (at_row c.args.row)))
