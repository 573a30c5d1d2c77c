-- `part_taken` meets its contract, by the toggle.
use Rattle.sdo.specs.Eight.{answer_of}
use Rattle.sdo.proofs.answer.part_taken.Goals as goal

pub returns-then-toggle : goal.returns-then-toggle
unfolding answer_of
returns-then-toggle c = rw c.if-toggle.true

pub returns : goal.returns
unfolding answer_of
returns c = rw c.if-toggle.false
