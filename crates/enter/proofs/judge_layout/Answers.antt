-- `judge_layout` is `layout_verdict`: by whether the layout is 1.
use borrow.Author.Tests.{eq-eqb, ne_eqb}
use Rattle.card.specs.Card.{layout_verdict}
use Rattle.enter.proofs.judge_layout.Goals as goal

pub returns-then-v-eq1 : goal.returns-then-v-eq1
unfolding layout_verdict
returns-then-v-eq1 c = simp (eq-eqb _ 1 c.if-v-eq1.true)

pub returns : goal.returns
unfolding layout_verdict
returns c = simp (ne_eqb _ 1 c.if-v-eq1.false)
