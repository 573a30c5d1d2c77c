-- `held_by` is `held_by`: the two arms by the test of the type.
use Rattle.entry.specs.Entry.{held_by}
use Rattle.table.specs.Rule.{pick}
use Rattle.table.specs.Row.{CARD}
use borrow.Author.Tests.{lt-leb, le-leb}
use native.Mathlib.Omega.{arith}
use Rattle.entry.proofs.held_by.Goals as goal

pub returns-in-0-to-6 : goal.returns-in-0-to-6
unfolding held_by pick
returns-in-0-to-6 c = simp (lt-leb CARD c.args.kind (omega arith))

pub returns-in_default : goal.returns-in_default
unfolding held_by pick
returns-in_default c = simp (le-leb CARD c.args.kind (omega arith))
