-- Laws of the verdicts: by kind, by rank, and what `within` says.
use mathlib.Core.Path.{◌≡◌, refl, sym, ◌∙◌}
use mathlib.Core.Bool.{Bool, true, false}
use mathlib.Core.Logic.{⊎_elim}
use Prim.Native.Nat.{ℕ, ◌+◌, ◌-◌, ◌<◌, ◌≤◌}
use native.Mathlib.Nat.{eq-or-lt_of_le}
use native.Mathlib.Omega.{arith}
use Rattle.std.specs.Prelude.{Err}
use lib.Dec.{ltb}
use lib.Ieee.{binary32, is_nan, of_bits}
use lib.Ieee.Bits.{nan_bits_is, nan_bits_above}
use borrow.Author.Tests.{lt-ltb, le-ltb, le-leb, lt-leb, eq-eqb, ne_eqb, ltb-false}
use Rattle.table.specs.Row.{REAL}
use Rattle.table.specs.Rule.{pick, rank, real_rank}
use Rattle.table.proofs.Walks.{lt_or_ge}
use Rattle.limits.specs.Limits.{within, first_fault, whole_verdict, real_verdict, by_kind, kind_verdict}
use Rattle.limits.specs.Ranks.{rank_verdict}
use Rattle.limits.specs.declared.Outside.TheVariants.{NotANumber}
use Rattle.limits.proofs.Real.{magnitude, real_lt}

-- 32 bits that are no NaN's
pub record Ordered (b : ℕ) : Type 0 where
  pub short : b < 4294967296
  pub number : magnitude b ≤ 2139095040

-- what is asked of a REAL's limits and of its number
pub record Patterns (low high v : ℕ) : Type 0 where
  pub lowest : Ordered low
  pub highest : Ordered high
  pub short : v < 4294967296

-- a pattern is a NaN's where its magnitude is above the infinity's
nan_is : (b : ℕ) → is_nan (of_bits binary32 b) ≡ ltb 2139095040 (magnitude b)
nan_is b = sym (nan_bits_is binary32 b) ∙ nan_bits_above binary32 b

-- a REAL is judged by the ranks, if it is a number
real_by_ranks : (low high v : ℕ) → Patterns low high v
    → first_fault (is_nan (of_bits binary32 v)) (ltb (real_rank high) (real_rank v)) (ltb (real_rank v) (real_rank low)) ≡ real_verdict low high v
unfolding real_verdict first_fault
real_by_ranks low high v p =
    let l = p.lowest in
    let h = p.highest in
    ⊎_elim (λ n. simp (nan_is v, lt-ltb 2139095040 (magnitude v) n))
    (λ g. simp (real_lt high v h.short p.short h.number g, real_lt v low p.short l.short g l.number))
    (lt_or_ge 2139095040 (magnitude v))

-- a verdict by kind
module _ (k low high v : ℕ) where
  pub kind-whole : k < REAL → whole_verdict low high v ≡ kind_verdict k low high v
  unfolding kind_verdict by_kind
  kind-whole h = simp (lt-ltb k REAL h)

  kind-real : k ≡ REAL → real_verdict low high v ≡ kind_verdict k low high v
  unfolding kind_verdict by_kind
  kind-real h = simp (le-ltb k REAL (omega arith), eq-eqb k REAL h)

  pub kind_none : REAL < k → within ≡ kind_verdict k low high v
  unfolding kind_verdict by_kind
  kind_none h = simp (le-ltb k REAL (omega arith), ne_eqb k REAL (λ e. omega arith))

-- a verdict by limits that are ranks
module _ (k low high v : ℕ) where
  pub rank_nan : k ≡ REAL → 2139095040 < magnitude v → Err NotANumber ≡ rank_verdict k low high v
  unfolding rank_verdict first_fault
  rank_nan e n = simp (le-leb k REAL (omega arith), eq-eqb k REAL e, nan_is v, lt-ltb 2139095040 (magnitude v) n)

  pub rank-number : k ≤ REAL → (k ≡ REAL → magnitude v ≤ 2139095040) → whole_verdict low high (rank k v) ≡ rank_verdict k low high v
  unfolding rank_verdict whole_verdict
  rank-number h n =
      ⊎_elim (λ e. simp (le-leb k REAL h, eq-eqb k REAL e, nan_is v, le-ltb 2139095040 (magnitude v) (n e)))
      (λ l. simp (le-leb k REAL h, ne_eqb k REAL (λ e. omega arith)))
      (eq-or-lt_of_le h)

  pub rank_none : REAL < k → within ≡ rank_verdict k low high v
  unfolding rank_verdict
  rank_none h = simp (lt-leb k REAL h)

-- THE LAW: limits that are ranks judge as the limits that they are the ranks of
pub by_ranks : (k low high v : ℕ) → (k ≡ REAL → Patterns low high v) → rank_verdict k (rank k low) (rank k high) v ≡ kind_verdict k low high v
unfolding rank_verdict whole_verdict rank pick
by_ranks k low high v p =
    ⊎_elim (λ h. sym (rank_none k _ _ v h) ∙ kind_none k low high v h)
    (λ g. ⊎_elim
    (λ e. simp (le-leb k REAL g, eq-eqb k REAL e) (real_by_ranks low high v (p e) ∙ kind-real k low high v e))
    (λ l. simp (le-leb k REAL g, ne_eqb k REAL (λ e. omega arith)) (kind-whole k low high v l))
    (eq-or-lt_of_le g))
    (lt_or_ge REAL k)

-- `within` says that none of the three faults is there
no_fault : (n a b : Bool) → first_fault n a b ≡ within → (a ≡ false) × (b ≡ false)
unfolding first_fault
no_fault true a b e = absurd (let z : ◌≡◌ {A = ℕ} 0 1 = cc in omega arith)
no_fault false true b e = absurd (let z : ◌≡◌ {A = ℕ} 0 1 = cc in omega arith)
no_fault false false true e = absurd (let z : ◌≡◌ {A = ℕ} 0 1 = cc in omega arith)
no_fault false false false e = (refl, refl)

pub whole-between : (low high v : ℕ) → low ≤ v → v ≤ high → whole_verdict low high v ≡ within
unfolding whole_verdict first_fault
whole-between low high v a b = simp (le-ltb high v b, le-ltb v low a)

-- So a number whose rank lies between those of the limits is within them, and a number within them has such a rank.
module _ (k low high v : ℕ) (h : k ≤ REAL) (p : k ≡ REAL → Patterns low high v) where
  pub rank-within : (k ≡ REAL → magnitude v ≤ 2139095040) → rank k low ≤ rank k v → rank k v ≤ rank k high → kind_verdict k low high v ≡ within
  rank-within n a b =
      sym (by_ranks k low high v p) ∙ sym (rank-number k (rank k low) (rank k high) v h n) ∙ whole-between (rank k low) (rank k high) (rank k v) a b

  pub within-rank : kind_verdict k low high v ≡ within → (rank k low ≤ rank k v) × (rank k v ≤ rank k high)
  unfolding rank_verdict
  within-rank e =
      let f = no_fault _ _ _ (simp (le-leb k REAL h) at (by_ranks k low high v p ∙ e)) in
      (ltb-false (rank k v) (rank k low) f.1, ltb-false (rank k high) (rank k v) f.0)

-- ---- ranks, by the tests of the code

pub rank_other : (kind v : ℕ) → (kind ≡ REAL → ⊥) → v ≡ rank kind v
unfolding rank pick
rank_other kind v d = sym (rw (ne_eqb kind REAL d))

pub rank_plus : (kind v : ℕ) → kind ≡ REAL → v < 2147483648 → 2147483648 + v ≡ rank kind v
unfolding rank real_rank pick
rank_plus kind v e h = sym (rw (eq-eqb kind REAL e, lt-ltb v 2147483648 h))

pub rank_minus : (kind v x : ℕ) → kind ≡ REAL → 2147483648 ≤ v → x ≡ 4294967296 - v → x ≡ rank kind v
unfolding rank real_rank pick
rank_minus kind v x e h f = f ∙ sym (rw (eq-eqb kind REAL e, le-ltb v 2147483648 h))
