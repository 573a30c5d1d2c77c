-- WHAT A WHOLE WRITE KEEPS of the memory: whatever each command, a wrong word, and a value that passes the last checks keep.
use Prim.Native.Nat.{ℕ}
use mathlib.Core.Path.{◌≡◌, refl}
use mathlib.Core.Bool.{Bool, true, false, cond}
use mathlib.Core.List.{List}
use mathlib.Core.Logic.{⊎_elim}
use mathlib.Core.Option.{Option, none, some}
use Rattle.order.specs.Talk.{Outcome, stored, restarted, declined}
use Rattle.order.specs.Gauge.{counted}
use Rattle.table.specs.Row.{COMMAND}
use Rattle.table.specs.Rows.{at_row}
use Rattle.table.specs.Find.{row_number}
use Rattle.table.proofs.Walks.{same_or_not}
use Rattle.command.specs.Words.{command_at, same_bytes, word_of, with_status}
use Rattle.command.specs.declared.word.Command.{Command}
use Rattle.gauge.specs.Memory.{Memory, with_values}
use Rattle.gauge.specs.Written.{with_value}
use Rattle.gauge.specs.Commands.{done, obeyed}
use Rattle.gauge.specs.Checks.{asked_last, Test, last_order, refused_by, unless_refused}
use Rattle.gauge.specs.Whole.{effect, write_by, commit_row}
use Rattle.gauge.proofs.CommitLaws.{effect_command, effect_other}

-- the last checks refuse nothing
abbrev pub Passed : ℕ → List ℕ → List ℕ → Type 0
Passed k bytes values = refused_by (asked_last k bytes values) last_order ≡ none

module _ (I : Memory → Type 0) where
  abbrev pub After : Outcome Memory → Type 0
  After (stored m) = I m
  After (restarted m) = I m
  After (declined c) = Unit {0}

  module _ (k : ℕ) (bytes : List ℕ) (m : Memory)
      (right : (c : Command) → After (done c m))
      (wrong : (c : Command) → I (with_values m (with_status c 2 m.values)))
      (written : ((at_row k).kind ≡ COMMAND → ⊥) → Passed k bytes m.values → I (with_values m (with_value (at_row k) m.values bytes))) where
    obeyed-after : (c : Command) → After (obeyed c bytes m)
    unfolding obeyed
    obeyed-after c = go (same_bytes bytes (word_of c))
      where
        go : (b : Bool) → After (cond b (done c m) (stored (with_values m (with_status c 2 m.values))))
        go true = right c
        go false = wrong c

    effect-after : Passed k bytes m.values → After (effect (at_row k) bytes m)
    effect-after pass =
        ⊎_elim (λ c. rw (effect_command (at_row k) bytes m c) (obeyed-after (command_at (at_row k).index))) (λ n. rw (effect_other (at_row k) bytes m n) (written n pass))
        (same_or_not (at_row k).kind COMMAND)

    pub commit-after : After (commit_row k bytes m)
    unfolding commit_row write_by counted row_number unless_refused
    commit-after = go (refused_by (asked_last k bytes m.values) last_order) refl
      where
        go : (o : Option Test) → refused_by (asked_last k bytes m.values) last_order ≡ o → After (unless_refused o declined (effect (at_row k) bytes m))
        go none e = effect-after e
        go (some t) e = tt
