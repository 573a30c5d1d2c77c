-- `inbox::open_parts`: each return is one law, given what the calls ensure. Assumes nothing.
use mathlib.Core.Path.{subst}
use Rattle.table.specs.Row.{Allowed}
use Rattle.table.specs.Rows.{at_row}
use Rattle.sdo.proofs.Facts.{said}
use Rattle.transfer.proofs.RecordLaws.{found-key}
use Rattle.line.proofs.Told.{room_of}
use Rattle.line.proofs.Writing.{row-most}
use Rattle.inbox.proofs.Opening.{whole-length, meant-allowed, opening_over, opening_whole, opening_begun, opening_misfits}
use Rattle.inbox.proofs.open_parts.Goals as goal

pub returns-then-not-length_fits : goal.returns-then-not-length_fits
returns-then-not-length_fits c =
    opening_misfits c.args.at c.args.values.now c.args.block.now c.args.state.now c.args.room.now c.args.k c.args.row c.requires.1.0 c.requires.1.1 c.args.bytes.now (rw (c.smallest.ensures.smallest, c.largest-high.ensures.largest) at c.length_fits.ensures) c.args.announced (rw c.largest-high.ensures.largest at c.meant-len.ensures) c.if-not-length_fits.true (rw c.largest-high.ensures.largest at c.misfit.ensures)

pub returns-then-len-bytes : goal.returns-then-len-bytes
returns-then-len-bytes c =
    opening_over c.args.at c.args.values.now c.args.block.now c.args.state.now c.args.room.now c.args.k c.args.row c.requires.1.0 c.requires.1.1 c.args.bytes.now (rw (c.smallest.ensures.smallest, c.largest-high.ensures.largest) at c.length_fits.ensures) c.if-not-length_fits.false c.args.announced (rw c.largest-high.ensures.largest at c.meant-len.ensures) c.if-len-bytes.true (rw c.into.ensures at c.refused.ensures)

pub returns-then-is_whole : goal.returns-then-is_whole
returns-then-is_whole c =
    opening_whole c.args.at c.args.values.now c.args.block.now c.args.state.now c.args.room.now c.args.k c.args.row c.requires.1.0 c.requires.1.1 c.args.bytes.now (rw (c.smallest.ensures.smallest, c.largest-high.ensures.largest) at c.length_fits.ensures) c.if-not-length_fits.false c.args.announced (rw c.largest-high.ensures.largest at c.meant-len.ensures) (said c.is_whole.ensures c.if-is_whole.true) c.with_value.ensures

pub begin-requires : goal.begin-requires
begin-requires c =
    (room_of c.told-state c.requires.0, (c.if-len-bytes.false, row-most c.requires.1.0 (meant-allowed c.args.at c.args.values.now c.args.block.now c.args.state.now c.args.room.now c.args.k c.args.row c.requires.1.0 c.requires.1.1 c.args.bytes.now (rw (c.smallest.ensures.smallest, c.largest-high.ensures.largest) at c.length_fits.ensures) c.if-not-length_fits.false)))

pub returns : goal.returns
returns c =
    opening_begun c.args.at c.args.values.now c.args.block.now c.args.state.now c.args.room.now c.args.k c.args.row c.requires.1.0 c.requires.1.1 c.args.bytes.now (rw (c.smallest.ensures.smallest, c.largest-high.ensures.largest) at c.length_fits.ensures) c.if-not-length_fits.false c.args.announced (rw c.largest-high.ensures.largest at c.meant-len.ensures) (said c.is_whole.ensures c.if-is_whole.false) c.if-len-bytes.false c.begin.ensures

pub with_value-requires : goal.with_value-requires
with_value-requires c = (
  c.requires.0,
  (c.requires.1.0, found-key c.args.k c.args.row c.requires.1.1),
  subst (Allowed (at_row c.args.row)) (whole-length c.args.at c.args.values.now c.args.block.now c.args.state.now c.args.room.now c.args.k c.args.row c.requires.1.0 c.requires.1.1 c.args.bytes.now (rw (c.smallest.ensures.smallest, c.largest-high.ensures.largest) at c.length_fits.ensures) c.if-not-length_fits.false c.args.announced (rw c.largest-high.ensures.largest at c.meant-len.ensures) (said c.is_whole.ensures c.if-is_whole.true))
      (meant-allowed c.args.at c.args.values.now c.args.block.now c.args.state.now c.args.room.now c.args.k c.args.row c.requires.1.0 c.requires.1.1 c.args.bytes.now (rw (c.smallest.ensures.smallest, c.largest-high.ensures.largest) at c.length_fits.ensures) c.if-not-length_fits.false),
)
