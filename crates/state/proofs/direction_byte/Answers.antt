-- `state::direction_byte`: by the direction. Assumes nothing.
use Rattle.state.specs.State.{direction_byte}
use Rattle.state.proofs.direction_byte.Goals as goal

pub returns-in-Neither : goal.returns-in-Neither
unfolding direction_byte
returns-in-Neither c = rw c.in-Neither.is

pub returns-in-Reads : goal.returns-in-Reads
unfolding direction_byte
returns-in-Reads c = rw c.in-Reads.is

pub returns-in-Writes : goal.returns-in-Writes
unfolding direction_byte
returns-in-Writes c = rw c.in-Writes.is
