-- `command::word::same`: std's test is the definition's. Assumes nothing.
use mathlib.Core.Path.{◌≡◌, refl, ap, ◌∙◌}
use mathlib.Core.Bool.{Bool, ◌&&◌}
use mathlib.Core.List.{List, [], ◌∷◌}
use Prim.Native.Nat.{ℕ}
use lib.Dec.{eqb}
use lib.Pointwise.{pointwise}
use Rattle.command.specs.Words.{same_bytes}
use Rattle.command.proofs.word.same.Goals as goal

alike : (xs ys : List ℕ) → pointwise eqb xs ys ≡ same_bytes xs ys
unfolding same_bytes
alike [] [] = refl
alike [] (y ∷ ys) = refl
alike (x ∷ xs) [] = refl
alike (x ∷ xs) (y ∷ ys) = ap (λ (b : Bool). eqb x y && b) (alike xs ys)

pub returns : goal.returns
returns c = c.eq.ensures ∙ alike c.args.bytes.now c.args.word.now
