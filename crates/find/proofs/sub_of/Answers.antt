-- `find::sub_of`: the column is the field `sub` of each row. Assumes nothing.
use Rattle.table.specs.Row.{Row}
use Rattle.table.specs.Rows.{rows}
use Rattle.find.specs.Columns.{column}
use Rattle.find.proofs.ColumnLaws.{column-at}
use Rattle.find.proofs.sub_of.Goals as goal

pub returns : goal.returns
unfolding rows column
returns c = column-at (λ (r : Row). r.sub) c.args.row
