-- What the copies and numbers that the code puts come to, in terms of rows: one law for each effect, and one turn of the words.
use mathlib.Core.Path.{◌≡◌, ◌∙◌}
use mathlib.Core.Bool.{Bool}
use mathlib.Core.List.{List, [], ◌∷◌}
use mathlib.Core.Logic.{◌⊎◌}
use Prim.Native.Nat.{ℕ, ◌+◌, ◌-◌, ◌≤◌}
use native.Mathlib.Omega.{arith}
use lib.Dec.{T, leb, leb→le}
use lib.ListN.{length, take, drop, replicate}
use Rattle.wire.specs.Splice.{splice}
use Rattle.wire.specs.Little.{little}
use Rattle.table.specs.Row.{Row}
use Rattle.table.specs.Rule.{held}
use Rattle.table.specs.Walk.{every}
use Rattle.table.proofs.Walks.{both_left, both_right}
use Rattle.entry.specs.Entry.{entry_of, copied, with_entry}

module _ (r : Row) (values : List ℕ) {x : List ℕ} {p : ℕ} (place : p ≡ r.place) where
  pub copied_is : {n : ℕ} → n ≡ held r → x ≡ splice (replicate 64 0) 0 (take (p + n - p) (drop p values)) → x ≡ copied r values
  unfolding copied entry_of
  copied_is {n} h e =
      let m : p + n - p ≡ n = omega arith in
      e ∙ rw (m, h, place)

  pub stored_is : (bytes : List ℕ) → x ≡ splice values p bytes → x ≡ with_entry r values bytes
  unfolding with_entry
  stored_is bytes e = e ∙ rw place

-- ---- words of four bytes, put one after the other

unfoldable pub worded : List ℕ → List ℕ → List ℕ → List ℕ
worded [] ws values = values
worded (p ∷ ps) [] values = values
worded (p ∷ ps) (w ∷ ws) values = worded ps ws (splice values p (little 4 w))

-- the first of them is put, and the others are still to come
pub words_turn : (w : ℕ) (ps ws values all : List ℕ) {x qs vs : List ℕ} {p q : ℕ} → q ≡ p → x ≡ splice values q (little 4 w)
    → qs ≡ p ∷ ps → vs ≡ w ∷ ws → worded qs vs values ≡ all → worded ps ws x ≡ all
unfolding worded
words_turn w ps ws values all e h a b k = rw (h, e) (rw (a, b) at k)

-- none are left, of places or of words
pub words_end : (ps ws values all : List ℕ) → (length ps ≡ 0) ⊎ (length ws ≡ 0) → worded ps ws values ≡ all → values ≡ all
unfolding worded
words_end [] ws values all e k = k
words_end (p ∷ ps) [] values all e k = k
words_end (p ∷ ps) (w ∷ ws) values all e k = absurd (omega arith)

-- room for each word, as one test
abbrev pub roomy : List ℕ → Bool
roomy ps = every (λ (p : ℕ). leb (p + 4) 1024) ps

pub room_first : (p : ℕ) (ps : List ℕ) {qs : List ℕ} → qs ≡ p ∷ ps → T (roomy qs) → p + 4 ≤ 1024
unfolding every
room_first p ps e t = leb→le _ _ (both_left (leb (p + 4) 1024) _ (rw e at t))

pub room_rest : (p : ℕ) (ps : List ℕ) {qs : List ℕ} → qs ≡ p ∷ ps → T (roomy qs) → T (roomy ps)
unfolding every
room_rest p ps e t = both_right (leb (p + 4) 1024) _ (rw e at t)
