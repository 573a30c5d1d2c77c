-- `read_entry` is `copied`: what was copied is the row's entry.
use Rattle.table.specs.Rows.{at_row}
use Rattle.entry.proofs.Writes.{copied_is}
use Rattle.entry.proofs.read_entry.Goals as goal

pub returns : goal.returns
returns c =
    copied_is (at_row c.args.row) c.args.values.now c.place-place.ensures.place c.held_of-len.ensures.held c.copy_at.ensures
