-- `sample::next_trips`: point by point. Assumes nothing.
use Rattle.sample.specs.Sample.{trips_next}
use Rattle.sample.proofs.next_trips.Goals as goal

pub returns : goal.returns
unfolding trips_next
returns c = cc
