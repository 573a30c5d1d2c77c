-- `judge_whole` is `whole_verdict`: each way out by the tests that led there.
use Rattle.limits.specs.Limits.{whole_verdict, first_fault}
use borrow.Author.Tests.{lt-ltb, le-ltb}
use Rattle.limits.proofs.judge_whole.Goals as goal

pub returns-then-high-v : goal.returns-then-high-v
unfolding whole_verdict first_fault
returns-then-high-v c = simp (lt-ltb _ _ c.if-high-v.true)

pub returns-then-v-low : goal.returns-then-v-low
unfolding whole_verdict first_fault
returns-then-v-low c = simp (le-ltb _ _ c.if-high-v.false, lt-ltb _ _ c.if-v-low.true)

pub returns : goal.returns
unfolding whole_verdict first_fault
returns c = simp (le-ltb _ _ c.if-high-v.false, le-ltb _ _ c.if-v-low.false)
