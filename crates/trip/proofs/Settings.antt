-- What the definitions give where lent settings are odd: both tests hold, or a level or a hysteresis is a NaN. Assumes nothing.
use mathlib.Core.Path.{◌≡◌, refl}
use mathlib.Core.Bool.{Bool, true, false, ◌&&◌}
use lib.Ieee.{Float, nan, inf, fin, binary32, add, sub, lt}
use Rattle.trip.specs.declared.Side.{Side}
use Rattle.trip.specs.Trip.{side_settled, low_next, high_next}

-- off, if both hold
pub both_hold : (enabled was : Bool) → side_settled enabled true true was ≡ false
unfolding side_settled
both_hold true was = refl
both_hold false was = refl

-- neither holds: as it was, if it is enabled
pub neither_holds : (enabled was : Bool) → side_settled enabled false false was ≡ enabled && was
unfolding side_settled
neither_holds true was = refl
neither_holds false was = refl

below_nan : (p : Float) → lt p nan ≡ false
unfolding lt
below_nan nan = refl
below_nan (inf s) = refl
below_nan (fin s m e) = refl

above_nan : (p : Float) → lt nan p ≡ false
unfolding lt
above_nan p = refl

nan_add : (x : Float) → add binary32 nan x ≡ nan
unfolding add
nan_add x = refl

add_nan : (x : Float) → add binary32 x nan ≡ nan
unfolding add
add_nan nan = refl
add_nan (inf s) = refl
add_nan (fin s m e) = refl

nan_sub : (x : Float) → sub binary32 nan x ≡ nan
unfolding sub add
nan_sub x = refl

sub_nan : (x : Float) → sub binary32 x nan ≡ nan
unfolding sub add
sub_nan nan = refl
sub_nan (inf s) = refl
sub_nan (fin s m e) = refl

module _ (side : Side) (was : Bool) (p : Float) where
  -- a NaN level: an enabled side stays as it was
  pub low_nan_level : side.level ≡ nan → low_next side was p ≡ side.enabled && was
  unfolding low_next
  low_nan_level e = simp (e, nan_add, above_nan, below_nan) (neither_holds side.enabled was)

  pub high_nan_level : side.level ≡ nan → high_next side was p ≡ side.enabled && was
  unfolding high_next
  high_nan_level e = simp (e, nan_sub, above_nan, below_nan) (neither_holds side.enabled was)

  -- a NaN hysteresis: it goes on as ever, and never off by pressure
  pub low_nan_hysteresis : side.hysteresis ≡ nan → low_next side was p ≡ side_settled side.enabled (lt p side.level) false was
  unfolding low_next
  low_nan_hysteresis e = simp (e, add_nan, above_nan)

  pub high_nan_hysteresis : side.hysteresis ≡ nan → high_next side was p ≡ side_settled side.enabled (lt side.level p) false was
  unfolding high_next
  high_nan_hysteresis e = simp (e, sub_nan, below_nan)
