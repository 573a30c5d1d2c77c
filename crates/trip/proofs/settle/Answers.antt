-- `trip::settle`: each way out is the case of `side_settled` that its tests name. Assumes nothing.
use Rattle.trip.specs.Trip.{side_settled}
use Rattle.trip.proofs.settle.Goals as goal

pub returns-then-not-enabled : goal.returns-then-not-enabled
unfolding side_settled
returns-then-not-enabled c = simp c.if-not-enabled.true

pub returns-then-off : goal.returns-then-off
unfolding side_settled
returns-then-off c = simp (c.if-not-enabled.false, c.if-off.true)

pub returns-then-on : goal.returns-then-on
unfolding side_settled
returns-then-on c = simp (c.if-not-enabled.false, c.if-off.false, c.if-on.true)

pub returns : goal.returns
unfolding side_settled
returns c = simp (c.if-not-enabled.false, c.if-off.false, c.if-on.false)
