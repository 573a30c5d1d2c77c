-- Example K and cards that are refused, by computation. Assumes nothing.
use mathlib.Core.Path.{◌≡◌, refl}
use mathlib.Core.List.{List, [], ◌∷◌, ◌++◌, map}
use Prim.Native.Nat.{ℕ, ◌+◌}
use lib.ListN.{replicate}
use lib.Ieee.{lt, is_nan, of_bits, of_fields}
use Rattle.wire.specs.Splice.{splice}
use Rattle.wire.specs.Little.{little, from_little, number, put_number}
use Rattle.wire.specs.Flags.{is_set}
use Rattle.bits.specs.Bits.{msb, bits, num_from, num, field, packed}
use Rattle.bits.specs.Fields.{encode, decode}
use Rattle.table.specs.Places.{settings_1, low_enable, low_level, low_hysteresis}
use Rattle.limits.specs.Limits.{verdict_code, first_fault, whole_verdict, real_verdict, by_kind, kind_verdict}
use Rattle.card.specs.Card.{point_widths, enable, point_fields, point_bits, card_bits, card_of, fields_of, layout_verdict, level_verdict, first_bad, point_verdict, card_verdict, with_point, with_card}

-- trip point 1: low level 0.5, hysteresis 0.125, only that side enabled; the rest zero
abbrev pub half_low : List ℕ
half_low =
    put_number (put_number (put_number (replicate 1024 0) (settings_1 + low_enable) 1 1) (settings_1 + low_level) 4 0x3f000000) (settings_1 + low_hysteresis) 4 0x3e000000

-- byte 0 is 14, byte 9 FC, byte 13 F8, others 00
abbrev pub half_low_card : List ℕ
half_low_card = 0x14 ∷ (replicate 8 0 ++ (0xFC ∷ (replicate 3 0 ++ (0xF8 ∷ replicate 19 0))))

pub example_k_card : card_of half_low ≡ half_low_card
unfolding splice little from_little number is_set msb num_from num packed encode enable point_fields point_bits card_bits card_of
example_k_card = refl

-- and that card, written into zeros, is those values
pub example_k_written : with_card (replicate 1024 0) half_low_card ≡ half_low
unfolding splice little from_little number msb bits num_from num decode fields_of with_point with_card
example_k_written = refl

-- a card by its layout and the levels and hystereses of both points, with no side enabled
abbrev pub card_with : ℕ → List ℕ → List ℕ → List ℕ
card_with n one two = packed 33 (msb 4 n ++ (encode point_widths (0 ∷ 0 ∷ one) ++ encode point_widths (0 ∷ 0 ∷ two)))

abbrev none : List ℕ
none = 0 ∷ 0 ∷ 0 ∷ 0 ∷ []

-- In order: case K; minus zero and 1500; layout 2, with a level that is above; layout 0; a level that is above before a NaN; a
-- NaN before a hysteresis that is below; in point 2 alone a hysteresis that is below; infinity in point 1, a NaN in point 2.
pub examples_judged :
    map (λ (c : List ℕ). verdict_code (card_verdict c))
    (half_low_card ∷
    card_with 1 (0x80000000 ∷ 0x44BB8000 ∷ 0 ∷ 0 ∷ []) none ∷
    card_with 2 (0x44BB8001 ∷ 0 ∷ 0 ∷ 0 ∷ []) none ∷
    card_with 0 none none ∷
    card_with 1 (0x44BB8001 ∷ 0x7FC00000 ∷ 0 ∷ 0 ∷ []) none ∷
    card_with 1 (0 ∷ 0 ∷ 0x7FC00000 ∷ 0x80000001 ∷ []) none ∷
    card_with 1 none (0 ∷ 0 ∷ 0 ∷ 0x80000001 ∷ []) ∷
    card_with 1 (0 ∷ 0 ∷ 0 ∷ 0x7F800000 ∷ []) (0x7FC00000 ∷ 0 ∷ 0 ∷ 0 ∷ []) ∷
    [])
    ≡ 0 ∷ 0 ∷ 0x06090030 ∷ 0x06090030 ∷ 0x06090031 ∷ 0x06090030 ∷ 0x06090032 ∷ 0x06090031 ∷ []
unfolding msb bits num_from num field packed encode decode fields_of layout_verdict level_verdict first_bad point_verdict card_verdict verdict_code first_fault whole_verdict real_verdict by_kind kind_verdict lt is_nan of_bits of_fields
examples_judged = refl
