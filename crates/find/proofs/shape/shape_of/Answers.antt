-- `find::shape::shape_of`: the column is the shape of each row. Assumes nothing.
use Rattle.table.specs.Rows.{rows}
use Rattle.find.specs.Columns.{column, shape}
use Rattle.find.proofs.ColumnLaws.{column-at}
use Rattle.find.proofs.shape.shape_of.Goals as goal

pub returns : goal.returns
unfolding rows column shape
returns c = column-at shape c.args.row
