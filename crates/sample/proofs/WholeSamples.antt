-- Example K on the whole 1,024 values, then a NaN, a masked fault, and an image: by computation. Assumes nothing.
use mathlib.Core.Path.{◌≡◌, refl}
use mathlib.Core.List.{List, [], ◌∷◌}
use Prim.Native.Nat.{ℕ, ◌+◌}
use lib.ListN.{replicate}
use lib.Ieee.{binary32, of_bits}
use Rattle.wire.specs.Little.{number, put_number}
use Rattle.trip.specs.declared.Trips.{Trips}
use Rattle.trip.specs.Trip.{all_off}
use Rattle.table.specs.Places.{input_value, reading_valid, trip_outputs, settings_1, low_enable, low_level, low_hysteresis, underrange, active_word, latched_word, error_mask, summary_byte, power_on_time}
use Rattle.sample.specs.Sample.{trips_after, values_after}
use Rattle.sample.specs.Image.{in_order, mapping, image_of}
use Rattle.sample.proofs.Opened.{sample-opened}

-- a sample, its pressure by the bit pattern
pub record Sample : Type 0 where
  pub pattern : ℕ
  pub valid : ℕ
  pub faults : ℕ
  pub seconds : ℕ

abbrev pub sample : ℕ → ℕ → ℕ → ℕ → Sample
sample p v f n = record { pattern = p; valid = v; faults = f; seconds = n }

-- outputs, reading valid, input value, active word, latched word, summary and time
abbrev pub looked : List ℕ → List ℕ
looked l =
    number l trip_outputs 4 ∷
    number l reading_valid 1 ∷
    number l input_value 4 ∷
    number l active_word 4 ∷
    number l latched_word 4 ∷
    number l summary_byte 1 ∷
    number l power_on_time 4 ∷
    []

abbrev pub over_samples : List ℕ → Trips → List Sample → List (List ℕ)
over_samples l t [] = []
over_samples l t (s ∷ ss) =
    let p = of_bits binary32 s.pattern in
    let l' = values_after l t p s.valid s.faults s.seconds in
    looked l' ∷ over_samples l' (trips_after l t p s.valid) ss

-- trip point 1: low level 0.5, hysteresis 0.125, only that side enabled; the rest zero
abbrev pub half_low : List ℕ
half_low =
    put_number (put_number (put_number (replicate 1024 0) (settings_1 + low_enable) 1 1) (settings_1 + low_level) 4 0x3f000000) (settings_1 + low_hysteresis) 4 0x3e000000

-- off at 0.5, on at 0.25, still on at 0.625, off at 0.75, on at 0.25; a NaN and a sample that is not valid turn it off
pub example_k_whole :
    over_samples half_low all_off
    (sample 0x3f000000 1 0xffffffff 1 ∷
    sample 0x3e800000 1 0x200 2 ∷
    sample 0x3f200000 7 0 3 ∷
    sample 0x3f400000 1 0 4 ∷
    sample 0x3e800000 1 0 5 ∷
    sample 0x7fc00000 1 0 6 ∷
    sample 0x3e800000 1 0 7 ∷
    sample 0x3f400000 0 1 2 ∷
    [])
    ≡ (0 ∷ 1 ∷ 0x3f000000 ∷ 0x603 ∷ 0x603 ∷ 4 ∷ 1 ∷ []) ∷
    (2 ∷ 1 ∷ 0x3e800000 ∷ 0x200 ∷ 0x603 ∷ 4 ∷ 2 ∷ []) ∷
    (2 ∷ 1 ∷ 0x3f200000 ∷ 0 ∷ 0x603 ∷ 0 ∷ 3 ∷ []) ∷
    (0 ∷ 1 ∷ 0x3f400000 ∷ 0 ∷ 0x603 ∷ 0 ∷ 4 ∷ []) ∷
    (2 ∷ 1 ∷ 0x3e800000 ∷ 0 ∷ 0x603 ∷ 0 ∷ 5 ∷ []) ∷
    (0 ∷ 0 ∷ 0x3e800000 ∷ 0 ∷ 0x603 ∷ 0 ∷ 6 ∷ []) ∷
    (2 ∷ 1 ∷ 0x3e800000 ∷ 0 ∷ 0x603 ∷ 0 ∷ 7 ∷ []) ∷
    (0 ∷ 0 ∷ 0x3e800000 ∷ 1 ∷ 0x603 ∷ 4 ∷ 2 ∷ []) ∷
    []
unfolding sample-opened
example_k_whole = refl

-- over temperature is masked: the words show it and the summary does not; filament 1 beside it is shown; nothing is left to show
pub example_masked :
    over_samples (put_number half_low error_mask 4 0x400) all_off
    (sample 0x3f000000 1 0x400 1 ∷ sample 0x3f000000 1 0x401 2 ∷ sample 0x3f000000 1 0 3 ∷ [])
    ≡ (0 ∷ 1 ∷ 0x3f000000 ∷ 0x400 ∷ 0x400 ∷ 0 ∷ 1 ∷ []) ∷
    (0 ∷ 1 ∷ 0x3f000000 ∷ 0x401 ∷ 0x401 ∷ 4 ∷ 2 ∷ []) ∷
    (0 ∷ 1 ∷ 0x3f000000 ∷ 0 ∷ 0x401 ∷ 0 ∷ 3 ∷ []) ∷
    []
unfolding sample-opened
example_masked = refl

-- the image after a sample at 0.25 with over temperature, underrange lent as 7: flags, input value, summary, outputs
pub image_k :
    image_of (values_after (put_number half_low underrange 1 7) all_off (of_bits binary32 0x3e800000) 1 0x400 9)
    ≡ 0x05 ∷ 0x00 ∷ 0x00 ∷ 0x80 ∷ 0x3E ∷ 0x04 ∷ 0x02 ∷ 0x00 ∷ 0x00 ∷ 0x00 ∷ []
unfolding sample-opened in_order mapping image_of
image_k = refl
