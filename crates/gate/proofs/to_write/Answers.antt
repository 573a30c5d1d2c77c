-- `gate::to_write`: the way with its own access and code. Assumes nothing.
use Rattle.table.specs.Access.{access_number}
use Rattle.gate.proofs.to_write.Goals as goal

pub returns : goal.returns
unfolding access_number
returns c = c.way.ensures
