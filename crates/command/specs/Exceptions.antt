-- RULE: what an exception reset does (R8.7): F390 and F391 to F398, which stand behind each other, are cleared, and the summary byte
-- is worked out anew (R11.4). Assumes nothing.
use Rattle.std.specs.Prelude.{List, ℕ, replicate}
use Rattle.wire.specs.Splice.{splice}
use Rattle.table.specs.Places.{latched_status, latched_size}
use Rattle.sample.specs.Faults.{with_summary}

unfoldable pub exceptions_cleared : List ℕ → List ℕ
exceptions_cleared values = with_summary (splice values latched_status (replicate latched_size 0))
