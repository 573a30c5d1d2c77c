-- `wire::is_set`: the byte is its number. Assumes nothing.
use Rattle.wire.specs.Flags.{is_set}
use Rattle.wire.proofs.is_set.Goals as goal

pub returns : goal.returns
unfolding is_set
returns c = rw c.at.ensures
