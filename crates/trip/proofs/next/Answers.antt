-- `trip::next`: side by side. Assumes nothing.
use Rattle.trip.specs.Trip.{point_next}
use Rattle.trip.proofs.next.Goals as goal

pub returns : goal.returns
unfolding point_next
returns c = cc
