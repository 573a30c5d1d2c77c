-- `command::word::set_status`: two writes. Assumes nothing.
use Rattle.command.specs.Words.{with_status}
use Rattle.command.proofs.word.set_status.Goals as goal

pub returns : goal.returns
unfolding with_status
returns c = rw (c.put-2.ensures, c.put.ensures, c.status_of-at.ensures.0)
