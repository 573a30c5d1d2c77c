-- What a test over a whole list says at each place. It holds for any list. Assumes nothing.
use mathlib.Core.Bool.{Bool, true, false}
use mathlib.Core.List.{List, [], ◌∷◌}
use Prim.Native.Nat.{ℕ, zero, suc, ◌<◌, ◌≤◌}
use native.Mathlib.Nat.{le_of_suc-le-suc, not-suc-le-zero}
use native.Mathlib.Omega.{arith}
use lib.Dec.{T, ltb, eqb}
use mathlib.Core.Path.{◌≡◌, refl}
use mathlib.Core.Logic.{◌⊎◌, inl, inr, ⊎_elim}
use borrow.Author.Tests.{ltb-true, ltb-false, eqb-true, eqb-false}
use lib.ListN.{length, get_or}
use Rattle.table.specs.Walk.{both, all, every, linked, chain}

pub lt_or_ge : (m n : ℕ) → (m < n) ⊎ (n ≤ m)
lt_or_ge m n = go (ltb m n) refl
  where
    go : (b : Bool) → ltb m n ≡ b → (m < n) ⊎ (n ≤ m)
    go true e = inl (ltb-true m n e)
    go false e = inr (ltb-false m n e)

-- the order of two numbers
pub by_order : {A : Type 0} (a b : ℕ) → (a < b → A) → (a ≡ b → A) → (b < a → A) → A
by_order a b less same more = ⊎_elim less (λ g. ⊎_elim more (λ g'. same (omega arith)) (lt_or_ge b a)) (lt_or_ge a b)

pub same_or_not : (a b : ℕ) → (a ≡ b) ⊎ (a ≡ b → ⊥)
same_or_not a b = go (eqb a b) refl
  where
    go : (d : Bool) → eqb a b ≡ d → (a ≡ b) ⊎ (a ≡ b → ⊥)
    go true e = inl (eqb-true a b e)
    go false e = inr (eqb-false a b e)

pub both_left : (a b : Bool) → T (both a b) → T a
both_left true b t = tt
both_left false b t = t

pub both_right : (a b : Bool) → T (both a b) → T b
both_right true b t = t
both_right false b t = absurd t

-- one test of a list of tests that all pass
pub nth : (bs : List Bool) (k : ℕ) → T (all bs) → T (get_or bs k true)
unfolding all
nth [] k t = tt
nth (b ∷ bs) zero t = both_left b (all bs) t
nth (b ∷ bs) (suc k) t = nth bs k (both_right b (all bs) t)

module _ {A : Type 0} where
  pub every-at : (f : A → Bool) (xs : List A) (d : A) → T (every f xs) → (k : ℕ) → k < length xs → T (f (get_or xs k d))
  unfolding every
  every-at f [] d t k h = absurd (not-suc-le-zero h)
  every-at f (x ∷ xs) d t zero h = both_left (f x) (every f xs) t
  every-at f (x ∷ xs) d t (suc k) h = every-at f xs d (both_right (f x) (every f xs) t) k (le_of_suc-le-suc h)

  module _ (f : A → A → Bool) (R : A → A → Type 0) (holds : (x y : A) → T (f x y) → R x y) (trans : (x y z : A) → R x y → R y z → R x z) (d : A) where
    linked_far : (x : A) (ys : List A) → T (linked f x ys) → (k : ℕ) → k < length ys → R x (get_or ys k d)
    unfolding linked
    linked_far x [] t k h = absurd (not-suc-le-zero h)
    linked_far x (y ∷ ys) t zero h = holds x y (both_left (f x y) (linked f y ys) t)
    linked_far x (y ∷ ys) t (suc k) h =
        trans x y (get_or ys k d) (holds x y (both_left (f x y) (linked f y ys) t))
        (linked_far y ys (both_right (f x y) (linked f y ys) t) k (le_of_suc-le-suc h))

    tail_chain : (x : A) (ys : List A) → T (linked f x ys) → T (chain f ys)
    unfolding linked chain
    tail_chain x [] t = tt
    tail_chain x (y ∷ ys) t = both_right (f x y) (linked f y ys) t

    -- a relation that holds from each element to the next, and is transitive, holds from each to every later one
    pub chain_far : (xs : List A) → T (chain f xs) → (j k : ℕ) → j < k → k < length xs → R (get_or xs j d) (get_or xs k d)
    unfolding chain
    chain_far [] t j k h l = absurd (not-suc-le-zero l)
    chain_far (x ∷ xs) t zero zero h l = absurd (not-suc-le-zero h)
    chain_far (x ∷ xs) t zero (suc k) h l = linked_far x xs t k (le_of_suc-le-suc l)
    chain_far (x ∷ xs) t (suc j) zero h l = absurd (not-suc-le-zero h)
    chain_far (x ∷ xs) t (suc j) (suc k) h l = chain_far xs (tail_chain x xs t) j k (le_of_suc-le-suc h) (le_of_suc-le-suc l)
