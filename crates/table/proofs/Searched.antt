-- What an answer of the search says, for any list of rows.
-- Assumes nothing.
use mathlib.Core.Path.{◌≡◌, refl}
use mathlib.Core.Bool.{Bool, true, false}
use mathlib.Core.List.{List, [], ◌∷◌}
use Prim.Native.Nat.{ℕ, zero, suc, ◌+◌, ◌<◌, suc-le-suc, zero-le}
use native.Mathlib.Nat.{le_of_suc-le-suc, not-suc-le-zero}
use native.Mathlib.Omega.{arith}
use lib.Dec.{eqb}
use lib.ListN.{length, get_or}
use borrow.Author.Tests.{eqb-true, eqb-false, eq-eqb, ne_eqb}
use Rattle.table.specs.Row.{Row, no_row}
use Rattle.table.specs.Find.{At, NoIndex, NoSub, find_from, absence, choose}

-- row m of the list has the key
pub record Has (xs : List Row) (i s m : ℕ) : Type 0 where
  pub there : m < length xs
  pub index_is : (get_or xs m no_row).index ≡ i
  pub sub_is : (get_or xs m no_row).sub ≡ s

-- no row of the list has the index; none has the key
abbrev pub LacksIndex : List Row → ℕ → Type 0
LacksIndex xs i = (m : ℕ) → m < length xs → (get_or xs m no_row).index ≡ i → ⊥

abbrev pub LacksKey : List Row → ℕ → ℕ → Type 0
LacksKey xs i s = (m : ℕ) → m < length xs → (get_or xs m no_row).index ≡ i → (get_or xs m no_row).sub ≡ s → ⊥

later : (x : Row) (xs : List Row) (i s m : ℕ) → Has xs i s m → Has (x ∷ xs) i s (suc m)
later x xs i s m h = record { there = suc-le-suc h.there; index_is = h.index_is; sub_is = h.sub_is }

further : (x : Row) (xs : List Row) (n i s r : ℕ) → (m : ℕ) × (suc n + m ≡ r) × Has xs i s m → (m : ℕ) × (n + m ≡ r) × Has (x ∷ xs) i s m
further x xs n i s r f = (suc f.0, omega arith, later x xs i s f.0 f.2)

-- At r: r is the number of a row with the key
pub at_has : (xs : List Row) (n : ℕ) (seen : Bool) (i s r : ℕ) → find_from xs n seen i s ≡ At r → (m : ℕ) × (n + m ≡ r) × Has xs i s m
unfolding find_from
at_has [] n true i s r e = let z : ◌≡◌ {A = ℕ} 0 1 = cc in absurd (omega arith)
at_has [] n false i s r e = let z : ◌≡◌ {A = ℕ} 0 1 = cc in absurd (omega arith)
at_has (x ∷ xs) n seen i s r e =
    go (eqb x.index i) (eqb x.sub s) refl refl e (at_has xs (suc n) true i s r) (at_has xs (suc n) seen i s r)
  where
    go : (a b : Bool) → eqb x.index i ≡ a → eqb x.sub s ≡ b
        → choose a b (At n) (find_from xs (suc n) true i s) (find_from xs (suc n) seen i s) ≡ At r
        → (find_from xs (suc n) true i s ≡ At r → (m : ℕ) × (suc n + m ≡ r) × Has xs i s m)
        → (find_from xs (suc n) seen i s ≡ At r → (m : ℕ) × (suc n + m ≡ r) × Has xs i s m)
        → (m : ℕ) × (n + m ≡ r) × Has (x ∷ xs) i s m
    go true true ea eb q f g =
        let z : n ≡ r = cc in
        (0, omega arith, record { there = suc-le-suc zero-le; index_is = eqb-true _ _ ea; sub_is = eqb-true _ _ eb })
    go true false ea eb q f g = further x xs n i s r (f q)
    go false b ea eb q f g = further x xs n i s r (g q)

-- where the index was seen, the answer is never NoIndex
pub seen-index : (xs : List Row) (n i s : ℕ) → find_from xs n true i s ≡ NoIndex → ⊥
unfolding find_from
seen-index [] n i s e = let z : ◌≡◌ {A = ℕ} 0 1 = cc in omega arith
seen-index (x ∷ xs) n i s e = go (eqb x.index i) (eqb x.sub s) e (seen-index xs (suc n) i s)
  where
    go : (a b : Bool) → choose a b (At n) (find_from xs (suc n) true i s) (find_from xs (suc n) true i s) ≡ NoIndex
        → (find_from xs (suc n) true i s ≡ NoIndex → ⊥) → ⊥
    go true true q f = let z : ◌≡◌ {A = ℕ} 0 1 = cc in omega arith
    go true false q f = f q
    go false b q f = f q

-- NoIndex: no row has the index
pub no_index : (xs : List Row) (n : ℕ) (seen : Bool) (i s : ℕ) → find_from xs n seen i s ≡ NoIndex → LacksIndex xs i
unfolding find_from
no_index [] n seen i s e = λ m h. absurd (not-suc-le-zero h)
no_index (x ∷ xs) n seen i s e = go (eqb x.index i) (eqb x.sub s) refl e (no_index xs (suc n) seen i s)
  where
    go : (a b : Bool) → eqb x.index i ≡ a
        → choose a b (At n) (find_from xs (suc n) true i s) (find_from xs (suc n) seen i s) ≡ NoIndex
        → (find_from xs (suc n) seen i s ≡ NoIndex → LacksIndex xs i)
        → LacksIndex (x ∷ xs) i
    go true true ea q f m h e = let z : ◌≡◌ {A = ℕ} 0 1 = cc in omega arith
    go true false ea q f m h e = seen-index xs (suc n) i s q
    go false b ea q f zero h e = eqb-false _ _ ea e
    go false b ea q f (suc m) h e = f q m (le_of_suc-le-suc h) e

-- no row has the index: the answer is what was seen before
pub absent_index : (xs : List Row) (n : ℕ) (seen : Bool) (i s : ℕ) → LacksIndex xs i → find_from xs n seen i s ≡ absence seen
unfolding find_from
absent_index [] n seen i s f = refl
absent_index (x ∷ xs) n seen i s f =
    simp (ne_eqb x.index i (f 0 (suc-le-suc zero-le))) (absent_index xs (suc n) seen i s (λ m h. f (suc m) (suc-le-suc h)))

-- no row has the key, and the index was seen: NoSub
pub sub_absent_seen : (xs : List Row) (n i s : ℕ) → LacksKey xs i s → find_from xs n true i s ≡ NoSub
unfolding find_from
sub_absent_seen [] n i s f = refl
sub_absent_seen (x ∷ xs) n i s f =
    go (eqb x.index i) (eqb x.sub s) refl refl (sub_absent_seen xs (suc n) i s (λ m h. f (suc m) (suc-le-suc h)))
  where
    go : (a b : Bool) → eqb x.index i ≡ a → eqb x.sub s ≡ b → find_from xs (suc n) true i s ≡ NoSub
        → choose a b (At n) (find_from xs (suc n) true i s) (find_from xs (suc n) true i s) ≡ NoSub
    go true true ea eb q = absurd (f 0 (suc-le-suc zero-le) (eqb-true _ _ ea) (eqb-true _ _ eb))
    go true false ea eb q = q
    go false b ea eb q = q

-- no row has the key, and row m has the index: NoSub
pub absent_sub : (xs : List Row) (n : ℕ) (seen : Bool) (i s : ℕ) → LacksKey xs i s → (m : ℕ) → m < length xs → (get_or xs m no_row).index ≡ i → find_from xs n seen i s ≡ NoSub
unfolding find_from
absent_sub [] n seen i s f m h e = absurd (not-suc-le-zero h)
absent_sub (x ∷ xs) n seen i s f zero h e =
    simp (eq-eqb x.index i e, ne_eqb x.sub s (f 0 h e)) (sub_absent_seen xs (suc n) i s (λ m h. f (suc m) (suc-le-suc h)))
absent_sub (x ∷ xs) n seen i s f (suc m) h e =
    go (eqb x.index i) (eqb x.sub s) refl refl
    (absent_sub xs (suc n) true i s (λ m h. f (suc m) (suc-le-suc h)) m (le_of_suc-le-suc h) e)
    (absent_sub xs (suc n) seen i s (λ m h. f (suc m) (suc-le-suc h)) m (le_of_suc-le-suc h) e)
  where
    go : (a b : Bool) → eqb x.index i ≡ a → eqb x.sub s ≡ b → find_from xs (suc n) true i s ≡ NoSub → find_from xs (suc n) seen i s ≡ NoSub
        → choose a b (At n) (find_from xs (suc n) true i s) (find_from xs (suc n) seen i s) ≡ NoSub
    go true true ea eb q q' = absurd (f 0 (suc-le-suc zero-le) (eqb-true _ _ ea) (eqb-true _ _ eb))
    go true false ea eb q q' = q
    go false b ea eb q q' = q'

-- NoSub: no row has the key
pub no_sub : (xs : List Row) (n : ℕ) (seen : Bool) (i s : ℕ) → find_from xs n seen i s ≡ NoSub → LacksKey xs i s
unfolding find_from
no_sub [] n seen i s e = λ m h. absurd (not-suc-le-zero h)
no_sub (x ∷ xs) n seen i s e = go (eqb x.index i) (eqb x.sub s) refl refl e (no_sub xs (suc n) true i s) (no_sub xs (suc n) seen i s)
  where
    go : (a b : Bool) → eqb x.index i ≡ a → eqb x.sub s ≡ b
        → choose a b (At n) (find_from xs (suc n) true i s) (find_from xs (suc n) seen i s) ≡ NoSub
        → (find_from xs (suc n) true i s ≡ NoSub → LacksKey xs i s)
        → (find_from xs (suc n) seen i s ≡ NoSub → LacksKey xs i s)
        → LacksKey (x ∷ xs) i s
    go true true ea eb q f g m h e e' = let z : ◌≡◌ {A = ℕ} 0 1 = cc in omega arith
    go true false ea eb q f g zero h e e' = eqb-false _ _ eb e'
    go true false ea eb q f g (suc m) h e e' = f q m (le_of_suc-le-suc h) e e'
    go false b ea eb q f g zero h e e' = eqb-false _ _ ea e
    go false b ea eb q f g (suc m) h e e' = g q m (le_of_suc-le-suc h) e e'
