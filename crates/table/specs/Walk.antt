-- RULE: tests over a whole list. Assumes nothing.
use Rattle.std.specs.Prelude.{Bool, false}
use Rattle.std.proofs.Math.Bool.{true}
use mathlib.Core.List.{List, [], ◌∷◌}

-- both tests pass
abbrev pub both : Bool → Bool → Bool
both true b = b
both false b = false

-- all tests of a list pass
unfoldable pub all : List Bool → Bool
all [] = true
all (b ∷ bs) = both b (all bs)

module _ {A : Type 0} where
  -- the test passes at each element
  unfoldable pub every : (A → Bool) → List A → Bool
  every f [] = true
  every f (x ∷ xs) = both (f x) (every f xs)

  -- the test passes at each element and the next
  unfoldable pub linked : (A → A → Bool) → A → List A → Bool
  linked f x [] = true
  linked f x (y ∷ ys) = both (f x y) (linked f y ys)

  unfoldable pub chain : (A → A → Bool) → List A → Bool
  unfolding linked
  chain f [] = true
  chain f (x ∷ xs) = linked f x xs
