-- `trip::high_next`: the tests handed to `settle` are those of `high_next`. Assumes nothing.
use Rattle.trip.specs.Trip.{high_next}
use Rattle.trip.proofs.high_next.Goals as goal

pub returns : goal.returns
unfolding high_next
returns c = c.settle.ensures
