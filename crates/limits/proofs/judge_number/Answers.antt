-- `judge_number` is `rank_verdict`: each kind by its law.
use Rattle.limits.specs.Limits.{whole_verdict}
use Rattle.limits.proofs.LimitsLaws.{rank_other, rank-number, rank_none}
use native.Mathlib.Omega.{arith}
use mathlib.Core.Path.{ap, ◌∙◌}
use Rattle.limits.proofs.judge_number.Goals as goal

pub returns-in-0-to-4 : goal.returns-in-0-to-4
returns-in-0-to-4 c =
    c.judge_whole.ensures
    ∙ ap (whole_verdict c.args.low c.args.high) (rank_other c.args.kind c.args.v (λ e. omega arith))
    ∙ rank-number c.args.kind c.args.low c.args.high c.args.v (omega arith) (λ e. absurd (omega arith))

pub returns-in_default : goal.returns-in_default
returns-in_default c = rank_none c.args.kind _ _ _ (omega arith)
