-- What tests that are joined say of each. Assumes nothing.
use mathlib.Core.Path.{◌≡◌, refl, sym}
use mathlib.Core.Bool.{Bool, true, false, not, ◌&&◌, ◌||◌}
use Prim.Native.Nat.{ℕ}
use native.Mathlib.Omega.{arith}

pub no_flag : true ≡ false → ⊥
no_flag e = let z : ◌≡◌ {A = ℕ} 0 1 = cc in omega arith

pub either_false : (a b : Bool) → a || b ≡ false → (a ≡ false) × (b ≡ false)
either_false false b e = (refl, e)
either_false true b e = absurd (no_flag e)

pub both-off : (a b : Bool) → not a && not b ≡ true → (a ≡ false) × (b ≡ false)
both-off false false e = (refl, refl)
both-off false true e = absurd (no_flag (sym e))
both-off true b e = absurd (no_flag (sym e))
