-- `is_straight`: one point after the other.
use mathlib.Core.Path.{ap}
use mathlib.Core.Bool.{not}
use Rattle.crossed.specs.Crossed.{straight}
use Rattle.crossed.proofs.is_straight.Goals as goal

pub returns-then-is_at : goal.returns-then-is_at
unfolding straight
returns-then-is_at c = rw (← c.is_at.ensures, c.if-is_at.true)

pub returns : goal.returns
unfolding straight
returns c = rw (← c.is_at.ensures, c.if-is_at.false) (ap not c.is_at-2.ensures)
