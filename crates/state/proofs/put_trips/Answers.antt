-- `state::put_trips`: the four flags of the trips. Assumes nothing.
use Rattle.state.specs.State.{trips_bytes}
use Rattle.state.proofs.put_trips.Goals as goal

pub returns : goal.returns
unfolding trips_bytes
returns c = c.put_flags.ensures
