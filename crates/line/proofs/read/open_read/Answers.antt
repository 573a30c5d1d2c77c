-- `line::read::open_read`: by the gate. Assumes nothing.
use Rattle.table.specs.Row.{WO}
use Rattle.table.specs.Codes.{write_only}
use Rattle.line.proofs.Doors.{opened_key}
use Rattle.line.proofs.Reading.{read_led, read_stopped}
use Rattle.line.proofs.read.open_read.Goals as goal

pub open_row-requires : goal.open_row-requires
open_row-requires c = (c.requires, opened_key WO write_only c.args.k c.in-Ok.row c.in-Ok.ensures)

pub returns-in-Ok : goal.returns-in-Ok
returns-in-Ok c = read_led c.args.at c.args.values.now c.args.state.now c.args.room.now c.args.k c.in-Ok.row c.in-Ok.ensures c.open_row.ensures

pub returns-in-Err : goal.returns-in-Err
returns-in-Err c =
    read_stopped c.args.at c.args.values.now c.args.state.now c.args.room.now c.args.k c.in-Err.abort c.in-Err.ensures (rw c.into.ensures at c.refused.ensures)
