-- `gauge::masks::heed`: by the flag. Assumes nothing.
use Rattle.gauge.specs.Masks.{heeding}
use Rattle.gauge.proofs.masks.heed.Goals as goal

pub returns-then-came : goal.returns-then-came
unfolding heeding
returns-then-came c = rw (c.if-came.true, c.put_summary.ensures)

pub returns-else-came : goal.returns-else-came
unfolding heeding
returns-else-came c = rw c.if-came.false
