-- `inbox::open_write`: by the gate. Assumes nothing.
use Rattle.line.proofs.Speaking.{write_led}
use Rattle.inbox.proofs.Asked.{said_shut}
use Rattle.inbox.proofs.open_write.Goals as goal

pub open_on-requires : goal.open_on-requires
open_on-requires c = (c.requires.0, write_led c.args.k c.in-Ok.row c.in-Ok.ensures, c.requires.1, c.requires.2)

pub returns-in-Err : goal.returns-in-Err
returns-in-Err c =
    said_shut c.args.at c.args.values.now c.args.block.now c.args.state.now c.args.room.now c.args.s.now c.args.k c.args.opening c.in-Err.abort c.requires.2 c.in-Err.ensures (rw c.into.ensures at c.refused.ensures)
