-- `gauge::commit::status_by`: by the flag. Assumes nothing.
use Rattle.gauge.specs.Commands.{status_by}
use Rattle.gauge.proofs.commit.status_by.Goals as goal

pub returns-then-right : goal.returns-then-right
unfolding status_by
returns-then-right c = rw c.if-right.true

pub returns-else-right : goal.returns-else-right
unfolding status_by
returns-else-right c = rw c.if-right.false
