-- `read::are_digits`: what is still to be tested decides. Assumes nothing.
use mathlib.Core.Path.{sym, ap, ◌∙◌}
use native.Mathlib.Omega.{arith}
use lib.ListN.{drop_of_length-le}
use Rattle.dialogue.proofs.TextLaws.{digits_turn}
use Rattle.dialogue.specs.Text.{all_digits}
use Rattle.dialogue.proofs.read.are_digits.Goals as goal

pub returns-then-not-is_a_digit : goal.returns-then-not-is_a_digit
returns-then-not-is_a_digit c = sym (rw c.if-not-is_a_digit.true at (digits_turn c.args.text.now c.loop-b.b-index c.is_a_digit.result (omega arith) c.is_a_digit.ensures)) ∙ c.loop-b.invariant

pub loop-b-preserved : goal.loop-b-preserved
loop-b-preserved c = sym (rw c.if-not-is_a_digit.false at (digits_turn c.args.text.now c.loop-b.b-index c.is_a_digit.result (omega arith) c.is_a_digit.ensures)) ∙ c.loop-b.invariant

pub returns : goal.returns
unfolding all_digits
returns c = sym (ap all_digits (drop_of_length-le c.args.text.now {i = c.loop-b.b-index} (omega arith))) ∙ c.loop-b.invariant
