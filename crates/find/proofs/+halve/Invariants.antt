-- The cycle of calls {halve}: each look leaves fewer rows. Assumes nothing.
use Rattle.find.proofs.+halve.Given as goal

-- the number of rows that are left
abbrev pub decreases-halve : goal.decreases-halve
decreases-halve l = l.left
