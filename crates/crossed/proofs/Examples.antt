-- Crossed and straight pairs, by computation. Assumes nothing.
use mathlib.Core.Bool.{true, false}
use mathlib.Core.List.{[], ◌∷◌}
use mathlib.Core.Path.{◌≡◌, refl}
use lib.Ieee.{lt, of_bits, of_fields}
use Rattle.crossed.specs.Crossed.{crossed}

-- both sides enabled, low level and high level in this order: 10 and 1; 1 and 1; zero and minus zero, both ways; a NaN below, above;
-- 1 and the next REAL; 0 and 1500; minus zero and the smallest REAL
pub levels_compared :
    (crossed 1 1 0x3F800000 0x41200000 ∷ crossed 1 1 0x3F800000 0x3F800000 ∷ crossed 1 1 0x80000000 0 ∷ crossed 1 1 0 0x80000000 ∷ crossed 1 1 0x44BB8000 0x7FC00000 ∷ crossed 1 1 0x7FC00000 0 ∷ crossed 1 1 0x3F800001 0x3F800000 ∷ crossed 1 1 0x44BB8000 0 ∷ crossed 1 1 1 0x80000000 ∷ [])
    ≡ true ∷ true ∷ true ∷ true ∷ true ∷ true ∷ false ∷ false ∷ false ∷ []
unfolding crossed lt of_bits of_fields
levels_compared = refl

-- 10 and 1 again: the high side alone, the low side alone, and two enables that were lent
pub sides_compared : (crossed 1 0 0x3F800000 0x41200000 ∷ crossed 0 1 0x3F800000 0x41200000 ∷ crossed 2 255 0x3F800000 0x41200000 ∷ []) ≡ false ∷ false ∷ true ∷ []
unfolding crossed lt of_bits of_fields
sides_compared = refl
