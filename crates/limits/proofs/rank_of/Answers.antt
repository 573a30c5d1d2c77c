-- `rank_of` is `rank`.
use native.Mathlib.Omega.{arith}
use Rattle.limits.proofs.LimitsLaws.{rank_other, rank_plus, rank_minus}
use Rattle.limits.proofs.rank_of.Goals as goal

pub returns-then-kind-ne-REAL : goal.returns-then-kind-ne-REAL
returns-then-kind-ne-REAL c = rank_other _ _ c.if-kind-ne-REAL.true

pub returns-then-v-lt2147483648 : goal.returns-then-v-lt2147483648
returns-then-v-lt2147483648 c = rank_plus _ _ c.if-kind-ne-REAL.false c.if-v-lt2147483648.true

pub returns : goal.returns
returns c = rank_minus _ _ _ c.if-kind-ne-REAL.false (omega arith) (omega arith)
