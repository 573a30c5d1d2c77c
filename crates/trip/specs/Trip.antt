-- RULE: the sides of a trip point, one sample on (R10.2 to R10.9).
use Rattle.std.specs.Prelude.{Bool, true, false, cond, not, ◌&&◌, ◌||◌, ℕ, eqb, Float}
use Rattle.std.specs.Float.{nan, inf, fin, binary32}
use Rattle.std.specs.Float.Ieee.{of_bits, lt, add, sub}
use Rattle.trip.specs.declared.Side.{Side}
use Rattle.trip.specs.declared.Point.{Point}
use Rattle.trip.specs.declared.On.{On}
use Rattle.trip.specs.declared.Trips.{Trips}

-- R10.7
unfoldable pub side_settled : (enabled on off was : Bool) → Bool
side_settled enabled on off was = cond enabled (cond off false (cond on true was)) false

-- R10.5, R10.8
unfoldable pub low_next : Side → Bool → Float → Bool
low_next side was p =
    side_settled side.enabled (lt p side.level) (lt (add binary32 side.level side.hysteresis) p) was

-- R10.6, R10.8
unfoldable pub high_next : Side → Bool → Float → Bool
high_next side was p =
    side_settled side.enabled (lt side.level p) (lt p (sub binary32 side.level side.hysteresis)) was

unfoldable pub point_next : Point → On → Float → On
point_next point was p =
    record { high = high_next point.high was.high p; low = low_next point.low was.low p }

unfoldable pub finite : Float → Bool
finite nan = false
finite (inf s) = false
finite (fin s m e) = true

-- R10.1, R10.2
unfoldable pub usable_pressure : Float → ℕ → Bool
usable_pressure p valid = not (eqb valid 0) && (not (lt p (of_bits binary32 0)) && finite p)

unfoldable pub off : On
off = record { high = false; low = false }

abbrev pub pick_on : Bool → On → On → On
pick_on true a b = a
pick_on false a b = b

-- a sample that is not valid turns trips off (R10.3)
unfoldable pub point_after : Point → On → Float → ℕ → On
point_after point was p valid = pick_on (usable_pressure p valid) (point_next point was p) off

-- the output of a trip point is on if one of its sides is (R10.9)
unfoldable pub output : On → Bool
output on = on.high || on.low

-- both points off
abbrev pub all_off : Trips
all_off = record { one = record { high = false; low = false }; two = record { high = false; low = false } }
