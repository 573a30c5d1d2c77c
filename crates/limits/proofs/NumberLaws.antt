-- The bytes that are looked at as a number, by the type.
use mathlib.Core.Path.{◌≡◌, refl, ◌∙◌}
use mathlib.Core.Logic.{⊎_elim}
use Prim.Native.Nat.{ℕ, zero, suc, ◌<◌, ◌≤◌}
use native.Mathlib.Nat.{eq-or-lt_of_le}
use native.Mathlib.Omega.{arith}
use borrow.Author.Tests.{le-leb, lt-leb, eq-eqb, ne_eqb}
use Rattle.table.specs.Row.{Row, USINT, UINT, ULINT, REAL}
use Rattle.table.proofs.Walks.{lt_or_ge}
use Rattle.table.proofs.Rules.{RowRule}
use Rattle.table.proofs.Widths.{length_by, as_printed}
use Rattle.limits.specs.Limits.{number_len}

module _ (kind : ℕ) where
  pub len_word : UINT < kind → number_len kind ≡ 4
  unfolding number_len
  len_word h = rw (lt-leb kind USINT (omega arith), ne_eqb kind UINT (λ e. omega arith))

  pub len_pair : kind ≡ UINT → number_len kind ≡ 2
  unfolding number_len
  len_pair e = rw (lt-leb kind USINT (omega arith), eq-eqb kind UINT e)

  pub len_byte : kind ≤ USINT → number_len kind ≡ 1
  unfolding number_len
  len_byte h = rw (le-leb kind USINT h)

  pub len-most : number_len kind ≤ 4
  len-most =
      ⊎_elim (λ w. omega (arith, len_word w))
      (λ g. ⊎_elim (λ e. omega (arith, len_pair e)) (λ b. omega (arith, len_byte (omega arith))) (eq-or-lt_of_le g))
      (lt_or_ge UINT kind)

-- they are all bytes of a number, but for a ULINT's
by_kind : (n k : ℕ) → k ≤ REAL → (k ≡ ULINT → ⊥) → length_by n k ≡ number_len k
unfolding number_len
by_kind n zero h d = refl
by_kind n (suc zero) h d = refl
by_kind n (suc (suc zero)) h d = refl
by_kind n (suc (suc (suc zero))) h d = refl
by_kind n (suc (suc (suc (suc zero)))) h d = absurd (d refl)
by_kind n (suc (suc (suc (suc (suc zero))))) h d = refl
by_kind n (suc (suc (suc (suc (suc (suc k)))))) h d = absurd (omega arith)

pub number_long : (r : Row) → RowRule r → r.kind ≤ REAL → (r.kind ≡ ULINT → ⊥) → r.len ≡ number_len r.kind
number_long r u h d = as_printed r u ∙ by_kind r.len r.kind h d
