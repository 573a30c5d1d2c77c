-- `line::write::write_sized`: each return is one law, given what the calls ensure. Assumes nothing.
use mathlib.Core.Path.{refl}
use native.Mathlib.Omega.{arith}
use lib.ListN.{length}
use Rattle.table.specs.Rows.{at_row}
use Rattle.table.specs.Row.{smallest, largest}
use Rattle.line.proofs.Writing.{within, sized-refused, sized-right}
use Rattle.line.proofs.write.write_sized.Goals as goal

pub with_value-requires : goal.with_value-requires
with_value-requires c =
    let in-range = within _ _ _ c.length_fits.ensures c.if-length_fits.true in
    (c.requires.0, c.requires.1, record { enough = omega arith; not_over = omega arith })

pub returns-then-length_fits : goal.returns-then-length_fits
returns-then-length_fits c =
    sized-right c.args.at c.args.values.now c.args.block.now c.args.state.now c.args.room.now c.args.k c.args.bytes.now (smallest (at_row c.args.row)) (largest (at_row c.args.row)) (length c.args.bytes.now) (rw (c.smallest.ensures.smallest, c.largest-high.ensures.largest) at c.length_fits.ensures) c.if-length_fits.true refl refl c.with_value.ensures

pub returns : goal.returns
returns c =
    sized-refused c.args.at c.args.values.now c.args.block.now c.args.state.now c.args.room.now c.args.k c.args.bytes.now (smallest (at_row c.args.row)) (largest (at_row c.args.row)) (length c.args.bytes.now) (rw (c.smallest.ensures.smallest, c.largest-high.ensures.largest) at c.length_fits.ensures) c.if-length_fits.false (rw c.largest-high.ensures.largest at c.misfit.ensures)
