-- `trip::low_next`: the tests handed to `settle` are those of `low_next`. Assumes nothing.
use Rattle.trip.specs.Trip.{low_next}
use Rattle.trip.proofs.low_next.Goals as goal

pub returns : goal.returns
unfolding low_next
returns c = c.settle.ensures
