-- Example K, by computation. Assumes nothing.
use mathlib.Core.Path.{◌≡◌, refl}
use mathlib.Core.Bool.{Bool, true, false}
use mathlib.Core.List.{List, [], ◌∷◌}
use Prim.Native.Nat.{ℕ}
use lib.Ieee.{binary32, of_bits, lt, add, sub}
use Rattle.trip.specs.declared.Point.{Point}
use Rattle.trip.specs.declared.On.{On}
use Rattle.trip.specs.Trip.{side_settled, low_next, high_next, point_next, finite, usable_pressure, off, point_after}

-- a point after each of some valid samples, whose pressures are given by their bit patterns
abbrev pub over_samples : Point → On → List ℕ → List On
over_samples point was [] = []
over_samples point was (p ∷ ps) =
    let now = point_after point was (of_bits binary32 p) 1 in
    now ∷ over_samples point now ps

-- low level 0.5, hysteresis 0.125, only that side enabled
abbrev pub half_low : Point
half_low =
    record {
      high = record { level = of_bits binary32 0; hysteresis = of_bits binary32 0; enabled = false };
      low = record { level = of_bits binary32 0x3f000000; hysteresis = of_bits binary32 0x3e000000; enabled = true };
    }

abbrev pub low_only : Bool → On
low_only b = record { high = false; low = b }

-- off at 0.5, on at 0.25, still on at 0.625, off at 0.75
pub example_k :
    over_samples half_low off (0x3f000000 ∷ 0x3e800000 ∷ 0x3f200000 ∷ 0x3f400000 ∷ [])
    ≡ low_only false ∷ low_only true ∷ low_only true ∷ low_only false ∷ []
unfolding side_settled low_next high_next point_next finite usable_pressure off point_after of_bits lt add sub
example_k = refl
