-- `judge_real` is `rank_verdict` of a REAL: a NaN by its magnitude, any other pattern by its rank.
use Rattle.table.specs.Row.{REAL}
use Rattle.limits.specs.Limits.{whole_verdict}
use Rattle.limits.proofs.LimitsLaws.{rank_nan, rank-number}
use mathlib.Core.Path.{refl, ap, ◌∙◌}
use native.Mathlib.Omega.{arith}
use Rattle.limits.proofs.judge_real.Goals as goal

pub returns-then-v-gt2139095040 : goal.returns-then-v-gt2139095040
returns-then-v-gt2139095040 c = rank_nan REAL c.args.low c.args.high c.args.v refl (omega arith)

pub returns : goal.returns
returns c =
    c.judge_whole.ensures
    ∙ ap (whole_verdict c.args.low c.args.high) c.rank_of.ensures
    ∙ rank-number REAL c.args.low c.args.high c.args.v (omega arith) (λ e. omega arith)
