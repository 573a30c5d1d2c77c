-- A number is within the limits of its row where its place in the order of its type lies between theirs. Assumes nothing.
use mathlib.Core.Bool.{Bool, true, false, ◌&&◌}
use mathlib.Core.List.{List}
use mathlib.Core.Logic.{⊎_elim}
use mathlib.Core.Path.{◌≡◌, refl, sym, ap, ◌∙◌}
use Prim.Native.Nat.{ℕ, ◌≤◌, ◌<◌}
use native.Mathlib.Omega.{arith}
use lib.Dec.{eqb, leb}
use Rattle.std.specs.Prelude.{Some}
use Rattle.std.specs.Ordering.{nat_cmp, partial_le}
use Rattle.std.specs.declared.ops.RangeInclusive.{RangeInclusive}
use Rattle.std.specs.Range.{range_inclusive_start, range_inclusive_end, range_inclusive_exhausted, range_inclusive_contains}
use borrow.Author.Rules.{rules}
use borrow.Author.Tests.{ne_eqb, le-leb, lt-leb}
use Rattle.bits.proofs.Parts.{field_fits}
use Rattle.wire.proofs.LittleLaws.{Bytes}
use Rattle.bits.specs.Bits.{bits, field}
use Rattle.block.proofs.Entries.{number_or_string, no_code, number-narrow, within_string, width_some, width-most}
use Rattle.block.proofs.Kept.{Kept}
use Rattle.block.specs.Asked.{cut, lowest, highest, between}
use Rattle.block.specs.Block.{row_width, within}
use Rattle.limits.proofs.NumberLaws.{len-most}
use Rattle.limits.proofs.RowVerdicts.{ranked_within, within_ranked}
use Rattle.limits.specs.Limits.{Verdict, number_len, verdict_code}
use Rattle.table.proofs.Rules.{RowRule}
use Rattle.table.proofs.Walks.{lt_or_ge}
use Rattle.table.specs.Row.{Row, REAL}
use Rattle.table.specs.Rule.{pick, rank}
use Rattle.wire.specs.Little.{number}

module _ (r : Row) (u : RowRule r) (v : ℕ) (w : v < 4294967296) (h : r.kind ≤ REAL) where
  abbrev low : ℕ
  low = rank r.kind r.low

  abbrev high : ℕ
  high = rank r.kind r.high

  abbrev own : ℕ
  own = rank r.kind v

  inside : low ≤ own → own ≤ high → within r v ≡ true
  unfolding within verdict_code
  inside a b = ap (λ (x : Verdict). eqb (verdict_code x) 0) (ranked_within r u h v (λ e. w) a b)

  outside : within r v ≡ true → (low ≤ own) × (own ≤ high)
  unfolding within
  outside e = within_ranked r u h v (λ q. w) (no_code _ e)

  judged : between low high own ≡ within r v
  unfolding between
  judged = go (within r v) refl
    where
      go : (b : Bool) → within r v ≡ b → (leb low own && leb own high) ≡ b
      go true e = let o = outside e in rw (le-leb low own o.0, le-leb own high o.1)
      go false e =
          ⊎_elim (λ l. rw (lt-leb low own l))
          (λ g. ⊎_elim (λ l. rw (le-leb low own g, lt-leb own high l)) (λ k. rw (le-leb low own g, le-leb own high k) (sym (inside g k) ∙ e)) (lt_or_ge high own))
          (lt_or_ge own low)

-- a string has no limits: any number passes
all-between : (kind low v : ℕ) → REAL < kind → low ≡ 0 → v < 4294967296 → between (rank kind low) 4294967295 (rank kind v) ≡ true
unfolding between rank pick
all-between kind low v h l w = rw (ne_eqb kind REAL (λ e. omega arith), l, le-leb 0 v (omega arith), le-leb v 4294967295 (omega arith))

module _ (r : Row) (k : Kept r) where
  string_judged : REAL < r.kind → (x v : ℕ) → x < 4294967296 → between (lowest r) 4294967295 (rank r.kind x) ≡ within r v
  unfolding lowest
  string_judged h x v w = all-between r.kind r.low x h (k.rule.no_low (omega arith)) w ∙ within_string r v h

  pub held-judged : (values : List ℕ) → Bytes values
      → between (lowest r) (highest r) (rank r.kind (number values r.place (number_len r.kind))) ≡ within r (number values r.place r.len)
  unfolding lowest highest
  held-judged values b =
      number_or_string r.kind
      (λ h. rw (le-leb r.kind REAL h, ← k.number_is h) (judged r k.rule (number values r.place r.len) (number-narrow values r.place r.len b (k.sized.short h)) h))
      (λ h. rw (lt-leb r.kind REAL h) (string_judged h _ _ (number-narrow values r.place (number_len r.kind) b (len-most r.kind))))

  -- the bits that are looked at are at most 32
  pub cut_is : r.kind ≤ REAL → cut r ≡ row_width r
  unfolding cut
  cut_is h = rw (le-leb r.kind REAL h)

  pub cut_fits : (1 ≤ cut r) × (cut r ≤ 32)
  unfolding cut
  cut_fits =
      number_or_string r.kind
      (λ h. rw (le-leb r.kind REAL h) (width_some r.kind r.len k.sized.some, omega (arith, width-most r.kind r.len k.sized.some, k.sized.short h)))
      (λ h. rw (lt-leb r.kind REAL h) (omega arith, omega arith))

  pub saved-judged : (block : List ℕ) (at : ℕ)
      → between (lowest r) (highest r) (rank r.kind (field (bits block) at (cut r))) ≡ within r (field (bits block) at (row_width r))
  unfolding cut lowest highest
  saved-judged block at =
      let f : (w : ℕ) → w ≤ 32 → field (bits block) at w < 4294967296 = λ w n. field_fits block at w 32 n in
      number_or_string r.kind
      (λ h. rw (le-leb r.kind REAL h) (judged r k.rule (field (bits block) at (row_width r)) (f (row_width r) (omega (arith, width-most r.kind r.len k.sized.some, k.sized.short h))) h))
      (λ h. rw (lt-leb r.kind REAL h) (string_judged h (field (bits block) at 32) _ (f 32 (omega arith))))

-- ---- the test of the code

at_most : (a b : ℕ) → partial_le (λ x y. Some (nat_cmp x y)) a b ≡ leb a b
at_most a b = search rules

-- a range is asked whether it holds a number's place
pub held-between : (range : RangeInclusive ℕ) (low high kind v : ℕ) {x : ℕ} {answer : Bool}
    → range_inclusive_start range ≡ low → range_inclusive_end range ≡ high → range_inclusive_exhausted range ≡ false
    → x ≡ rank kind v → answer ≡ range_inclusive_contains (λ x y. Some (nat_cmp x y)) range x → answer ≡ between low high (rank kind v)
unfolding between
held-between range low high kind v s e o is says =
    says ∙ rw (s, e, o, is, at_most low (rank kind v), at_most (rank kind v) high)
