-- What a row's rule gives its values: how they are judged, and that the default is within its limits. They hold for any row that keeps the rule.
use mathlib.Core.Path.{◌≡◌, sym, ap, ◌∙◌}
use mathlib.Core.List.{List}
use mathlib.Core.Logic.{⊎_elim}
use Prim.Native.Nat.{ℕ, ◌+◌, ◌*◌, ◌-◌, ◌%◌, ◌^◌, ◌<◌, ◌≤◌}
use native.Mathlib.Omega.{arith}
use lib.ListN.{length}
use lib.Seq.{take_all}
use borrow.Author.Tests.{lt-ltb, le-ltb, eq-eqb}
use Rattle.wire.specs.Little.{number, from_little}
use Rattle.wire.proofs.LittleLaws.{Bytes, number_lt}
use Rattle.table.specs.Row.{Row, BOOL, ULINT, REAL}
use Rattle.table.specs.Rule.{pick, rank, real_rank}
use Rattle.table.proofs.Walks.{lt_or_ge}
use Rattle.table.proofs.Rules.{RowRule}
use Rattle.table.proofs.Widths.{ulint_width, real-width}
use Rattle.limits.specs.Ranks.{rank_verdict}
use Rattle.limits.specs.Limits.{within, number_len, number_verdict, row_verdict}
use Rattle.limits.proofs.LimitsLaws.{Patterns, kind-whole, kind_none, by_ranks, whole-between, rank-within, within-rank, rank_other}
use Rattle.limits.proofs.NumberLaws.{number_long}

-- ---- judging

-- a REAL's limits are patterns of finite numbers
real_patterns : (r : Row) → RowRule r → (v : ℕ) → r.kind ≡ REAL → v < 4294967296 → Patterns r.low r.high v
real_patterns r u v e h =
    let w = real-width r u e in
    let n : r.kind ≤ REAL = omega arith in
    let l : r.low < 2 ^ (8 * 4) = rw w at (u.low_fits n) in
    let g : r.high < 2 ^ (8 * 4) = rw w at (u.high_fits n) in
    let fl = u.finite-low e in
    let fh = u.finite-high e in
    record {
      lowest = record { short = l; number = omega arith };
      highest = record { short = g; number = omega arith };
      short = h;
    }

-- by a type and ranks of limits that the code has read
pub verdict_from : (r : Row) → RowRule r → {k l h : ℕ} → k ≡ r.kind → l ≡ rank r.kind r.low → h ≡ rank r.kind r.high
    → (v : ℕ) → v < 4294967296 → rank_verdict k l h v ≡ number_verdict r v
unfolding number_verdict
verdict_from r u kind low high v short =
    rw (kind, low, high) (by_ranks r.kind r.low r.high v (λ e. real_patterns r u v e short))

-- a row that is no number is within, whatever number is asked
pub no_number : (r : Row) (v : ℕ) → REAL < r.kind → within ≡ number_verdict r v
unfolding number_verdict
no_number r v h = kind_none r.kind r.low r.high v h

-- bytes of the row's length, and its type as the code has read it
module _ (r : Row) (u : RowRule r) (bytes : List ℕ) (long : length bytes ≡ r.len) {k : ℕ} (kind : k ≡ r.kind) where
  whole : number bytes 0 r.len ≡ from_little bytes
  unfolding number
  whole = ap from_little (take_all r.len bytes (omega arith))

  -- they are judged by the number that the type has
  module _ (h : k ≤ REAL) (d : k ≡ ULINT → ⊥) where
    len_is : r.len ≡ number_len k
    len_is = number_long r u (omega arith) (λ e. d (kind ∙ e)) ∙ ap number_len (sym kind)

    pub number-there : 0 + number_len k ≤ length bytes
    number-there = omega (arith, len_is)

    pub bytes_verdict : {v : ℕ} → v ≡ number bytes 0 (number_len k) → number_verdict r v ≡ row_verdict r bytes
    unfolding row_verdict
    bytes_verdict e = ap (number_verdict r) (e ∙ ap (number bytes 0) (sym len_is) ∙ whole)

  -- a ULINT takes them all, and so does what is no number
  ulint_within : Bytes bytes → r.kind ≡ ULINT → within ≡ row_verdict r bytes
  unfolding row_verdict number_verdict
  ulint_within b e =
      let n : from_little bytes < 2 ^ 64 = rw (whole, ulint_width r u e) at (number_lt bytes 0 r.len b) in
      sym (sym (kind-whole r.kind r.low r.high (from_little bytes) (omega arith))
      ∙ whole-between r.low r.high (from_little bytes) (omega (arith, u.ulint_low e)) (omega (arith, u.ulint_high e)))

  pub all-within : Bytes bytes → ULINT ≤ k → (k ≡ REAL → ⊥) → within ≡ row_verdict r bytes
  unfolding row_verdict
  all-within b g d =
      ⊎_elim (λ l. ulint_within b (omega arith)) (λ n. no_number r _ (omega arith)) (lt_or_ge k REAL)

-- ---- ranks

-- 32 bits between two finite patterns, by rank, are no NaN's
between-finite : (low high v : ℕ) → low < 4294967296 → high < 4294967296 → v < 4294967296 → low % 2147483648 < 2139095040 → high % 2147483648 < 2139095040
    → real_rank low ≤ real_rank v → real_rank v ≤ real_rank high → v % 2147483648 ≤ 2139095040
unfolding real_rank pick
between-finite low high v l h w fl fh a b =
    ⊎_elim
    (λ lv. ⊎_elim
    (λ lh. let q : 2147483648 + v ≤ 2147483648 + high = simp (lt-ltb v 2147483648 lv, lt-ltb high 2147483648 lh) at b in omega arith)
    (λ gh. let q : 2147483648 + v ≤ 4294967296 - high = simp (lt-ltb v 2147483648 lv, le-ltb high 2147483648 gh) at b in omega arith)
    (lt_or_ge high 2147483648))
    (λ gv. ⊎_elim
    (λ ll. let q : 2147483648 + low ≤ 4294967296 - v = simp (le-ltb v 2147483648 gv, lt-ltb low 2147483648 ll) at a in omega arith)
    (λ gl. let q : 4294967296 - low ≤ 4294967296 - v = simp (le-ltb v 2147483648 gv, le-ltb low 2147483648 gl) at a in omega arith)
    (lt_or_ge low 2147483648))
    (lt_or_ge v 2147483648)

-- a number is within the limits of its row where its rank lies between theirs
module _ (r : Row) (u : RowRule r) (h : r.kind ≤ REAL) (v : ℕ) (short : r.kind ≡ REAL → v < 4294967296) where
  pub ranked_within : rank r.kind r.low ≤ rank r.kind v → rank r.kind v ≤ rank r.kind r.high → number_verdict r v ≡ within
  unfolding number_verdict rank pick
  ranked_within a b =
      rank-within r.kind r.low r.high v h (λ e. real_patterns r u v e (short e))
      (λ e. let p = real_patterns r u v e (short e) in
      between-finite r.low r.high v p.lowest.short p.highest.short (short e) (u.finite-low e) (u.finite-high e)
      (simp (eq-eqb r.kind REAL e) at a) (simp (eq-eqb r.kind REAL e) at b))
      a b

  pub within_ranked : number_verdict r v ≡ within → (rank r.kind r.low ≤ rank r.kind v) × (rank r.kind v ≤ rank r.kind r.high)
  unfolding number_verdict
  within_ranked e = within-rank r.kind r.low r.high v h (λ q. real_patterns r u v q (short q)) e

-- ---- the default

pub default_within : (r : Row) → RowRule r → r.kind ≤ REAL → number_verdict r r.def ≡ within
default_within r u h =
    ranked_within r u h r.def (λ e. rw (real-width r u e) at (u.def-fits h)) u.def-low u.def-high

-- a BOOL row that is within its limits holds 0 or 1
pub bool_within : (r : Row) (v : ℕ) → r.kind ≡ BOOL → r.high ≤ 1 → number_verdict r v ≡ within → v ≤ 1
unfolding number_verdict
bool_within r v k h e =
    let w = (within-rank r.kind r.low r.high v (omega arith) (λ q. absurd (omega arith)) e).1 in
    omega (arith, rank_other r.kind v (λ q. omega arith), rank_other r.kind r.high (λ q. omega arith))
