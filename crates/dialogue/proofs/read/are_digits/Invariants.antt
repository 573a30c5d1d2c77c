-- `read::are_digits`: what is still to be tested decides. Assumes nothing.
use mathlib.Core.Path.{◌≡◌}
use lib.ListN.{drop}
use Rattle.dialogue.specs.Text.{all_digits}
use Rattle.dialogue.proofs.read.are_digits.Given as goal

abbrev pub invariant-loop-b : goal.invariant-loop-b
invariant-loop-b l = all_digits (drop l.b-index l.text) ≡ all_digits l.text
