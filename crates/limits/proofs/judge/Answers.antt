-- `judge` is `row_verdict` of the value: a number that is no ULINT is read and judged, anything else is within.
use mathlib.Core.Path.{◌∙◌}
use native.Mathlib.Omega.{arith}
use Rattle.table.specs.Rows.{at_row}
use Rattle.table.proofs.Table.{row_rule}
use Rattle.limits.proofs.RowVerdicts.{number-there, bytes_verdict, all-within}
use Rattle.limits.proofs.judge.Goals as goal

pub number_by-requires : goal.number_by-requires
number_by-requires c =
    number-there (at_row c.args.row) (row_rule c.args.row c.kind-kind.ensures.row) c.args.value.now c.requires c.kind-kind.ensures.kind (omega arith) (λ e. omega arith)

pub returns-in_default : goal.returns-in_default
returns-in_default c =
    all-within (at_row c.args.row) (row_rule c.args.row c.kind-kind.ensures.row) c.args.value.now c.requires c.kind-kind.ensures.kind (λ k. (c.type_inv.value k).fits) (omega arith) (omega arith)

pub returns-in-0-to-3 : goal.returns-in-0-to-3
returns-in-0-to-3 c =
    c.judge_kind.ensures
    ∙ bytes_verdict (at_row c.args.row) (row_rule c.args.row c.kind-kind.ensures.row) c.args.value.now c.requires c.kind-kind.ensures.kind (omega arith) (λ e. omega arith) c.number_by.ensures
