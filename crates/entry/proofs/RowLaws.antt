-- What a row's rule gives its entry: how wide it is, and that its default is within its limits. They hold for any row that keeps the rule.
use mathlib.Core.Path.{◌≡◌, sym, ap, ◌∙◌}
use mathlib.Core.Logic.{⊎_elim}
use Prim.Native.Nat.{ℕ, ◌<◌, ◌≤◌}
use native.Mathlib.Omega.{arith}
use borrow.Author.Tests.{le-leb, lt-leb}
use Rattle.wire.specs.Little.{little, from_little}
use Rattle.wire.proofs.LittleLaws.{from_little-little}
use Rattle.table.specs.Row.{Row, REAL, CARD}
use Rattle.table.specs.Rule.{pick, held}
use Rattle.table.proofs.Walks.{lt_or_ge}
use Rattle.table.proofs.Rules.{RowRule}
use Rattle.limits.specs.Limits.{within, number_verdict, row_verdict}
use Rattle.limits.proofs.RowVerdicts.{no_number, default_within}
use Rattle.entry.specs.Entry.{held_by, default_of}

-- ---- widths

-- from the type and the length that the code has read
pub held-from : (r : Row) {k n : ℕ} → k ≡ r.kind → n ≡ r.len → held_by k n ≡ held r
unfolding held_by held
held-from r k n = rw (k, n)

pub held_is : (r : Row) → r.kind < CARD → held r ≡ r.len
unfolding held pick
held_is r h = simp (lt-leb CARD r.kind h)

held_none : (r : Row) → CARD ≤ r.kind → held r ≡ 0
unfolding held pick
held_none r h = simp (le-leb CARD r.kind h)

pub held-most : (r : Row) → RowRule r → held r ≤ 64
held-most r u =
    ⊎_elim (λ h. let m = u.most in omega (arith, held_is r h)) (λ g. omega (arith, held_none r g)) (lt_or_ge r.kind CARD)

-- ---- the default

-- its bytes are within the limits, whatever the row
pub default_judged : (r : Row) → RowRule r → row_verdict r (default_of r) ≡ within
unfolding row_verdict default_of
default_judged r u =
    ⊎_elim
    (λ h. let k : r.kind ≤ REAL = omega arith in
    ap (λ (n : ℕ). number_verdict r (from_little (little n r.def))) (held_is r (omega arith))
    ∙ ap (number_verdict r) (from_little-little r.len r.def (u.def-fits k))
    ∙ default_within r u k)
    (λ g. sym (no_number r _ g))
    (lt_or_ge r.kind 6)
