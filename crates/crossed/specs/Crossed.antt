-- RULE: A CROSSED TRIP POINT (R3.7): both its sides are enabled, and its low level is not below its high one.
use Rattle.std.specs.Prelude.{Bool, not, ◌&&◌, List, ℕ, ◌+◌, eqb}
use Rattle.std.specs.Float.{binary32}
use Rattle.std.specs.Float.Ieee.{of_bits, lt}
use Rattle.wire.specs.Little.{number}
use Rattle.table.specs.Places.{settings_1, settings_2, high_enable, low_enable, high_level, low_level}

-- by its enables and levels as they stand in values, card or block: an enable is on if it is not 0 (R3.6), a level is the REAL of its bits
unfoldable pub crossed : (on-high on-low level-high level-low : ℕ) → Bool
crossed on-high on-low level-high level-low =
    not (eqb on-high 0) && (not (eqb on-low 0) && not (lt (of_bits binary32 level-low) (of_bits binary32 level-high)))

-- the point whose settings begin at a place
unfoldable pub crossed_at : List ℕ → ℕ → Bool
crossed_at values at =
    crossed (number values (at + high_enable) 1) (number values (at + low_enable) 1) (number values (at + high_level) 4) (number values (at + low_level) 4)

-- neither point is crossed, as with the defaults (R3.9)
unfoldable pub straight : List ℕ → Bool
straight values = not (crossed_at values settings_1) && not (crossed_at values settings_2)
