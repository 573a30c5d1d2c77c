-- The test of a pressure, as code has it: the flag, not negative, and no difference to itself. Assumes nothing.
use mathlib.Core.Path.{◌≡◌, refl, sym, ap, ◌∙◌}
use mathlib.Core.Bool.{Bool, true, false, cond, not, ◌&&◌, beq, and-false, or-true, and-eq-true_iff}
use Prim.Native.Nat.{ℕ, ◌-◌, ◌*◌, ◌<◌}
use native.Mathlib.Nat.{zero-mul, mul-pos, sub_self, eq_of_mul-eq-mul_right}
use native.Mathlib.Omega.{arith}
use lib.Dec.{eqb, ltb, lit<}
use lib.Ieee.{Float, nan, inf, fin, binary32, of_bits, up, down, round, sum, add, sub, neg, lt, eq, is_nan}
use borrow.Author.Tests.{eq-eqb, le-ltb}
use lib.Ieee.Exact.{HasValue, round_exact}
use lib.Ieee.Fits.{down_pos}
use Rattle.trip.specs.Trip.{finite, usable_pressure}

-- a number that is 0 over something is level with 0
no_value : (x : Float) (s : Bool) (c : ℕ) → 0 < c → HasValue x s 0 c → eq x (of_bits binary32 0) ≡ true
unfolding eq of_bits
no_value nan s c p v = absurd v
no_value (inf t) s c p v = absurd v
no_value (fin t m e) s c p v =
    let h : m * up e ≡ 0 = eq_of_mul-eq-mul_right c p (m * up e) 0 (v.1 ∙ zero-mul (down e) ∙ sym (zero-mul c)) in
    let z : eqb (m * up e * 1) (0 * 1 * down e) ≡ true = eq-eqb (m * up e * 1) (0 * 1 * down e) (ap (λ (n : ℕ). n * 1) h ∙ sym (zero-mul (down e))) in
    let w : eqb (m * up e * 1) 0 ≡ true = eq-eqb (m * up e * 1) 0 (ap (λ (n : ℕ). n * 1) h) in
    rw (z, w) (or-true (beq t false))

-- 0 over something rounds to no value
rounded : (s : Bool) (c : ℕ) → 0 < c → HasValue (round binary32 s 0 c) s 0 c
rounded s c p = round_exact binary32 s 0 c 0 0 p (lit< tt) (lit< tt) (sym (zero-mul c))

-- a sum of opposites is level with 0
no_sum : (s t b : Bool) (n c : ℕ) → 0 < c → b ≡ false → n ≡ 0 → eq (cond b (round binary32 t n c) (round binary32 (s && b) n c)) (of_bits binary32 0) ≡ true
no_sum s t b n c p e h = rw (e, h) (no_value (round binary32 (s && false) 0 c) (s && false) c p (rounded (s && false) c p))

opposites : (s : Bool) (a c : ℕ) → 0 < c → eq (sum binary32 s a (not s) a c) (of_bits binary32 0) ≡ true
unfolding sum
opposites true a c p = no_sum true false (ltb a a) (a - a) c p (le-ltb a a (omega arith)) (sub_self a)
opposites false a c p = no_sum false true (ltb a a) (a - a) c p (le-ltb a a (omega arith)) (sub_self a)

-- the difference to itself is 0 where p is finite, and NaN elsewhere
own_difference : (p : Float) → eq (sub binary32 p p) (of_bits binary32 0) ≡ finite p
unfolding sub add neg eq finite
own_difference nan = refl
own_difference (inf true) = refl
own_difference (inf false) = refl
own_difference (fin s m e) = opposites s (m * up e * down e) (down e * down e) (mul-pos (down_pos e) (down_pos e))

module _ (p : Float) (valid : ℕ) where
  pub no_flag : valid ≡ 0 → usable_pressure p valid ≡ false
  unfolding usable_pressure
  no_flag e = rw e

  pub negative : lt p (of_bits binary32 0) ≡ true → usable_pressure p valid ≡ false
  unfolding usable_pressure
  negative e = simp e (and-false (not (eqb valid 0)))

  pub rest : eqb valid 0 ≡ false → lt p (of_bits binary32 0) ≡ false → usable_pressure p valid ≡ eq (sub binary32 p p) (of_bits binary32 0)
  unfolding usable_pressure
  rest e h = simp (e, h) (sym (own_difference p))

  opened : usable_pressure p valid ≡ true → not (eqb valid 0) && (not (lt p (of_bits binary32 0)) && finite p) ≡ true
  unfolding usable_pressure
  opened h = h

finite_number : (p : Float) → finite p ≡ true → is_nan p ≡ false
unfolding finite is_nan
finite_number nan h = cc
finite_number (inf s) h = refl
finite_number (fin s m e) h = refl

-- a usable pressure is no NaN
pub usable_number : (p : Float) (valid : ℕ) → usable_pressure p valid ≡ true → is_nan p ≡ false
usable_number p valid h = finite_number p ((and-eq-true_iff (not (lt p (of_bits binary32 0))) _).0 ((and-eq-true_iff (not (eqb valid 0)) _).0 (opened p valid h)).1).1
