-- `is_straight`: one point after the other. Assumes nothing.
use mathlib.Core.Bool.{not}
use mathlib.Core.Path.{ap}
use Rattle.block.specs.Asked.{straight_by}
use Rattle.block.proofs.is_straight.Goals as goal

pub returns-then-is_crossed : goal.returns-then-is_crossed
unfolding straight_by
returns-then-is_crossed c = rw (← c.is_crossed.ensures, c.if-is_crossed.true)

pub returns : goal.returns
unfolding straight_by
returns c = rw (← c.is_crossed.ensures, c.if-is_crossed.false) (ap not c.is_crossed-2.ensures)
