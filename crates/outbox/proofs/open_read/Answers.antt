-- `outbox::open_read`: by the gate. Assumes nothing.
use mathlib.Core.Path.{refl}
use Rattle.table.specs.Row.{WO}
use Rattle.table.specs.Codes.{write_only}
use Rattle.line.proofs.Doors.{opened_key}
use Rattle.outbox.proofs.Reading.{box_led, box_stopped}
use Rattle.outbox.proofs.open_read.Goals as goal

pub open_row-requires : goal.open_row-requires
open_row-requires c = (c.requires.0, c.requires.1, opened_key WO write_only c.args.k c.in-Ok.row c.in-Ok.ensures)

pub returns-in-Ok : goal.returns-in-Ok
returns-in-Ok c = box_led c.args.at c.args.values.now c.args.state.now c.args.room.now c.args.k c.in-Ok.row c.in-Ok.ensures c.open_row.ensures

pub returns-in-Err : goal.returns-in-Err
returns-in-Err c =
    box_stopped c.args.at c.args.values.now c.args.state.now c.args.room.now c.args.k c.in-Err.abort c.in-Err.ensures (rw c.into.ensures at c.refused.ensures) refl
