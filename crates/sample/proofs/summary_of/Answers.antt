-- `sample::summary_of`: by whether the mask hides all. Assumes nothing.
use lib.Bits.{bit_and}
use borrow.Author.Tests.{eq-eqb, ne_eqb}
use Rattle.sample.specs.Faults.{all_hidden, summary_of}
use Rattle.sample.proofs.summary_of.Goals as goal

pub returns-then-active-mask : goal.returns-then-active-mask
unfolding summary_of all_hidden
returns-then-active-mask c = rw (eq-eqb (bit_and c.args.active c.args.mask) c.args.active c.if-active-mask.true)

pub returns-else-active-mask : goal.returns-else-active-mask
unfolding summary_of all_hidden
returns-else-active-mask c = rw (ne_eqb (bit_and c.args.active c.args.mask) c.args.active c.if-active-mask.false)
