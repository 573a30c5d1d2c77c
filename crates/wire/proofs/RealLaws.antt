-- The bit patterns of REAL values: those of NaN, and minus zero's. Assumes nothing.
use mathlib.Core.Bool.{Bool, true, false, not}
use mathlib.Core.Path.{◌≡◌, refl, sym, ◌∙◌, subst}
use Prim.Native.Nat.{ℕ, ◌%◌, ◌<◌, ◌≤◌}
use lib.Dec.{T}
use lib.Ieee.{Float, nan, inf, fin, binary32, of_bits, to_bits, div, is_nan, nan_bits}
use lib.Ieee.Bits.{nan_bits_is, nan_bits_above}
use borrow.Author.Tests.{lt-ltb, le-ltb}

-- ---- the patterns of NaN are those above an infinity's, the sign dropped

nan_is : (x : Float) → is_nan x ≡ true → x ≡ nan
unfolding is_nan
nan_is nan e = refl
nan_is (inf s) e = cc
nan_is (fin s m e) d = cc

pub over_nan : (n : ℕ) → 2139095040 < n % 2147483648 → of_bits binary32 n ≡ nan
over_nan n h = nan_is (of_bits binary32 n) (sym (nan_bits_is binary32 n) ∙ nan_bits_above binary32 n ∙ lt-ltb 2139095040 (n % 2147483648) h)

refuted : (b : Bool) → b ≡ false → T (not b)
refuted b e = subst (λ (x : Bool). T (not x)) (sym e) tt

pub under_nan : (n : ℕ) → n % 2147483648 ≤ 2139095040 → T (not (nan_bits binary32 n))
under_nan n h = refuted (nan_bits binary32 n) (nan_bits_above binary32 n ∙ le-ltb 2139095040 (n % 2147483648) h)

pub no_nan : (x : Float) → is_nan x ≡ false → T (not (is_nan x))
no_nan x e = refuted (is_nan x) e

-- 0.0 / 0.0
pub made_nan : div binary32 (of_bits binary32 0) (of_bits binary32 0) ≡ nan
unfolding div of_bits
made_nan = refl

-- minus zero keeps its own pattern
pub minus_zero : to_bits binary32 (of_bits binary32 0x80000000) ≡ 0x80000000
unfolding to_bits of_bits
minus_zero = refl
