-- SHAPE: how a whole write ends, as the code's enum says it (R16.8), and what is left in the memory. Assumes nothing.
use Rattle.std.specs.Prelude.{List, ℕ, Result, Ok, Err}
use Rattle.order.specs.Talk.{Outcome, stored, restarted, declined}
use Rattle.gauge.specs.Memory.{Memory}
use Rattle.table.specs.Codes.{code_of}
use Rattle.table.specs.declared.code.AbortCode.{AbortCode}
use Rattle.gauge.specs.declared.commit.Accepted.{Accepted}
use Rattle.gauge.specs.declared.commit.Accepted.TheVariants.{Plainly, Restarting}

abbrev pub Ending : Type 0
Ending = Result Accepted AbortCode

-- with the code that is told
unfoldable pub told_ending : Ending → Result Accepted ℕ
told_ending (Ok a) = Ok a
told_ending (Err abort) = Err (code_of abort)

-- the ending, the values and the block
pub record Left : Type 0 where
  pub ending : Result Accepted ℕ
  pub values : List ℕ
  pub block : List ℕ

abbrev pub left : Ending → List ℕ → List ℕ → Left
left e values block = record { ending = told_ending e; values = values; block = block }

-- what is refused changes nothing (R7.10)
unfoldable pub left_by : Memory → Outcome Memory → Left
left_by m (stored n) = record { ending = Ok Plainly; values = n.values; block = n.block }
left_by m (restarted n) = record { ending = Ok Restarting; values = n.values; block = n.block }
left_by m (declined code) = record { ending = Err code; values = m.values; block = m.block }
