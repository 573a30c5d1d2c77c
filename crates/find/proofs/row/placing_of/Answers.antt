-- `find::row::placing_of`: the column is each row's place and the number of its limits. Assumes nothing.
use Rattle.table.specs.Rows.{rows}
use Rattle.find.specs.Pairs.{pairs}
use Rattle.find.proofs.ColumnLaws.{placings, placing-at}
use Rattle.find.proofs.row.placing_of.Goals as goal

pub returns : goal.returns
unfolding rows pairs placings
returns c = placing-at c.args.row
