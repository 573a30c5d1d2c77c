-- `find::row::Row::default`: the column is the field `def` of each row. Assumes nothing.
use Rattle.std.proofs.Common.{◌∙◌}
use Rattle.table.specs.Row.{Row}
use Rattle.table.specs.Rows.{rows}
use Rattle.find.specs.Columns.{column}
use Rattle.find.proofs.ColumnLaws.{column-at}
use Rattle.find.proofs.row.Row.default.Goals as goal

pub returns : goal.returns
unfolding rows column
returns c =
    rw (← c.self.view_is) (c.from.ensures ∙ column-at (λ (r : Row). r.def) c.self.inside.number)
