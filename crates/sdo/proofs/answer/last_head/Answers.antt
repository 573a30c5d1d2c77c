-- `last_head` meets its contract, by the toggle.
use native.Mathlib.Omega.{arith}
use Rattle.sdo.proofs.answer.last_head.Goals as goal

pub returns-then-toggle : goal.returns-then-toggle
returns-then-toggle c = rw c.if-toggle.true (omega arith)

pub returns : goal.returns
returns c = rw c.if-toggle.false (omega arith)
