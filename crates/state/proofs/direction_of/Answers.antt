-- `state::direction_of`: by the byte. Assumes nothing.
use borrow.Author.Tests.{eq-eqb, ne_eqb}
use Rattle.state.specs.State.{direction_of}
use Rattle.state.proofs.direction_of.Goals as goal

pub returns-then-n-eq1 : goal.returns-then-n-eq1
unfolding direction_of
returns-then-n-eq1 c = simp (eq-eqb _ _ c.if-n-eq1.true)

pub returns-then-n-eq2 : goal.returns-then-n-eq2
unfolding direction_of
returns-then-n-eq2 c = simp (ne_eqb _ _ c.if-n-eq1.false, eq-eqb _ _ c.if-n-eq2.true)

pub returns : goal.returns
unfolding direction_of
returns c = simp (ne_eqb _ _ c.if-n-eq1.false, ne_eqb _ _ c.if-n-eq2.false)
