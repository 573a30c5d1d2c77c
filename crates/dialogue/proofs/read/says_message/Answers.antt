-- `read::says_message`: test by test. Assumes nothing.
use mathlib.Core.Path.{◌∙◌}
use lib.ListN.{length}
use borrow.Author.Tests.{ne_eqb}
use Rattle.std.proofs.Common.{arith}
use Rattle.std.proofs.lemmas.Bool.Decides.{nat_tests}
use Rattle.dialogue.proofs.TextLaws.{rest_whole}
use Rattle.dialogue.specs.Text.{between, is_message}
use Rattle.dialogue.proofs.read.says_message.Goals as goal

pub returns-then-text-ne18 : goal.returns-then-text-ne18
unfolding is_message
returns-then-text-ne18 c = rw (ne_eqb (length c.args.text.now) 18 c.if-text-ne18.true)

pub returns-then-not-contains : goal.returns-then-not-contains
unfolding is_message between
returns-then-not-contains c = grind (arith, nat_tests)

pub returns-then-text-ne32 : goal.returns-then-text-ne32
unfolding is_message between
returns-then-text-ne32 c = grind (arith, nat_tests)

pub returns : goal.returns
unfolding is_message between
returns c = rw (rest_whole c.args.text.now 2) at c.are_digits.ensures ∙ grind (arith, nat_tests)
