-- Flags: by cases, what fits, and a flag that was written is read back. Assumes nothing.
use mathlib.Core.Bool.{Bool, true, false, not}
use mathlib.Core.Path.{◌≡◌, refl}
use mathlib.Core.List.{List, [], ◌∷◌}
use Prim.Native.Nat.{ℕ, ◌%◌, ◌<◌}
use native.Mathlib.Omega.{arith}
use lib.Dec.{eqb}
use Rattle.std.specs.Int.{from_bool}
use Rattle.wire.specs.Little.{little, from_little, number}
use Rattle.wire.specs.Flags.{is_set, bit, flags}
use Rattle.wire.proofs.LittleLaws.{from_little-little}

pub by_test : {A : Type 0} (t : Bool) → (t ≡ true → A) → (t ≡ false → A) → A
by_test true f g = f refl
by_test false f g = g refl

-- a flag made a number by the code
pub from-bit : (b : Bool) → from_bool b ≡ bit b
from-bit true = refl
from-bit false = refl

pub bit_lt : (b : Bool) → bit b < 2
bit_lt true = omega arith
bit_lt false = omega arith

bit-back : (b : Bool) → not (eqb (bit b) 0) ≡ b
bit-back true = refl
bit-back false = refl

pub set_back : (l : List ℕ) (at : ℕ) (b : Bool) → number l at 1 ≡ from_little (little 1 (bit b)) → is_set l at ≡ b
unfolding is_set
set_back l at b e = rw (e, from_little-little 1 (bit b) (omega (arith, bit_lt b))) (bit-back b)

-- ---- four flags

bit_byte : (b : Bool) → bit b % 256 ≡ bit b
bit_byte true = refl
bit_byte false = refl

pub flags_told : (a b c d : Bool) {w x y z : ℕ} → w ≡ from_bool a → x ≡ from_bool b → y ≡ from_bool c → z ≡ from_bool d
    → w ∷ x ∷ y ∷ z ∷ [] ≡ flags a b c d
unfolding little
flags_told a b c d ea eb ec ed =
    rw (ea, eb, ec, ed, from-bit a, from-bit b, from-bit c, from-bit d, bit_byte a, bit_byte b, bit_byte c, bit_byte d)
