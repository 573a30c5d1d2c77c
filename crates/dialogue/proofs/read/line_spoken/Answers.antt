-- `read::line_spoken`: an empty line, one that ends with a return, any other. Assumes nothing.
use native.Mathlib.Omega.{arith}
use lib.ListN.{length-take}
use Rattle.dialogue.proofs.TextLaws.{return_empty, return_dropped, return_absent}
use Rattle.dialogue.specs.Text.{spoken}
use Rattle.dialogue.proofs.read.line_spoken.Goals as goal

pub returns-then-n-eq0 : goal.returns-then-n-eq0
unfolding spoken
returns-then-n-eq0 c = rw (return_empty c.args.text.now c.if-n-eq0.true) c.read_text.ensures

pub slice_bounds-read_text-end : goal.slice_bounds-read_text-end
slice_bounds-read_text-end c = rw length-take (omega arith)

pub returns-then-text-shorter-eq13 : goal.returns-then-text-shorter-eq13
unfolding spoken
returns-then-text-shorter-eq13 c = rw (return_dropped c.args.text.now c.if-text-shorter-eq13.true) c.read_text-then-text-shorter-eq13.ensures

pub returns : goal.returns
unfolding spoken
returns c = rw (return_absent c.args.text.now c.if-text-shorter-eq13.false) c.read_text-2.ensures
