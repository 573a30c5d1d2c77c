-- `by_numbers`: by the first enable that is 0, or the levels.
use borrow.Author.Tests.{ne_eqb}
use Rattle.crossed.specs.Crossed.{crossed}
use Rattle.crossed.proofs.by_numbers.Goals as goal

pub returns-then-on_high-eq0 : goal.returns-then-on_high-eq0
unfolding crossed
returns-then-on_high-eq0 c = rw c.if-on_high-eq0.true

pub returns-then-on_low-eq0 : goal.returns-then-on_low-eq0
unfolding crossed
returns-then-on_low-eq0 c = rw (ne_eqb _ 0 c.if-on_high-eq0.false, c.if-on_low-eq0.true)

pub returns : goal.returns
unfolding crossed
returns c =
    rw (ne_eqb _ 0 c.if-on_high-eq0.false, ne_eqb _ 0 c.if-on_low-eq0.false, c.real_of-2.ensures, c.real_of.ensures)
