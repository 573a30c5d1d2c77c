-- `judge_kind` is `number_verdict` of the row: the limits read, handed to `judge_number`.
use mathlib.Core.Path.{◌∙◌}
use Rattle.table.specs.Rows.{at_row}
use Rattle.table.proofs.Table.{row_rule}
use Rattle.limits.proofs.RowVerdicts.{verdict_from}
use Rattle.limits.proofs.judge_kind.Goals as goal

pub returns : goal.returns
returns c =
    c.judge_number.ensures
    ∙ verdict_from (at_row c.args.row) (row_rule c.args.row c.kind.ensures.row) c.kind.ensures.kind c.limits-both.ensures.low c.limits-both.ensures.high c.args.v c.ranges.v.fits
