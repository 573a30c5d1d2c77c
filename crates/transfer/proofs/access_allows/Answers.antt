-- `access_allows` meets its contract, by the direction.
use Rattle.table.specs.Access.{access_number}
use Rattle.table.specs.declared.access.Access.TheVariants.{ReadOnly, WriteOnly}
use Rattle.table.proofs.Accesses.{same_access}
use Rattle.transfer.specs.Records.{allows}
use Rattle.transfer.proofs.access_allows.Goals as goal

pub returns-in-Neither : goal.returns-in-Neither
unfolding allows
returns-in-Neither c = rw c.in-Neither.is

pub returns-in-Reads : goal.returns-in-Reads
unfolding allows access_number
returns-in-Reads c = rw (c.in-Reads.is, c.ne.ensures, same_access c.args.access WriteOnly)

pub returns-in-Writes : goal.returns-in-Writes
unfolding allows access_number
returns-in-Writes c = rw (c.in-Writes.is, c.ne-in-Writes.ensures, same_access c.args.access ReadOnly)
