-- RULE: THE TRIP CARD, house row 2010 (R1.7, R3.1): a view of the trip entries (R3.3).
use Rattle.std.specs.Prelude.{cond, List, [], ◌∷◌, ◌++◌, ℕ, ◌+◌, eqb, drop, get_or, Ok, Err}
use Rattle.wire.specs.Little.{number, put_number}
use Rattle.wire.specs.Flags.{is_set, bit}
use Rattle.bits.specs.Bits.{msb, bits, field, packed}
use Rattle.bits.specs.Fields.{encode, decode}
use Rattle.table.specs.Row.{REAL}
use Rattle.table.specs.Places.{settings_1, settings_2, high_enable, low_enable, high_level, low_level, high_hysteresis, low_hysteresis}
use Rattle.limits.specs.Limits.{Verdict, within, kind_verdict}
use Rattle.limits.specs.declared.Outside.TheVariants.{NotANumber}

-- R3.4
abbrev pub layout : ℕ
layout = 1

-- a trip point's fields (R3.2)
abbrev pub point_widths : List ℕ
point_widths = 1 ∷ 1 ∷ 32 ∷ 32 ∷ 32 ∷ 32 ∷ []

-- the bits of a card at which the fields of trip point 1, and again those of 2, begin
abbrev pub point_1 : ℕ
point_1 = 4

abbrev pub point_2 : ℕ
point_2 = 134

-- ---- what the card shows of the values

-- R3.6
unfoldable pub enable : List ℕ → ℕ → ℕ
enable values at = bit (is_set values at)

-- the fields of the trip point whose entries begin at a place; levels and hystereses bit for bit
unfoldable pub point_fields : List ℕ → ℕ → List ℕ
point_fields values at =
    enable values (at + high_enable) ∷
    enable values (at + low_enable) ∷
    number values (at + high_level) 4 ∷
    number values (at + high_hysteresis) 4 ∷
    number values (at + low_level) 4 ∷
    number values (at + low_hysteresis) 4 ∷
    []

unfoldable pub point_bits : List ℕ → ℕ → List ℕ
point_bits values at = encode point_widths (point_fields values at)

-- one behind the other (R3.1)
unfoldable pub card_bits : List ℕ → List ℕ
card_bits values = msb 4 layout ++ (point_bits values settings_1 ++ point_bits values settings_2)

-- the 33 bytes of the card
unfoldable pub card_of : List ℕ → List ℕ
card_of values = packed 33 (card_bits values)

-- ---- the fields of a card

-- the fields of a trip point, from a bit of the card on
unfoldable pub fields_of : List ℕ → ℕ → List ℕ
fields_of card at = decode point_widths (drop at (bits card))

-- ---- judging a card

-- R3.4
unfoldable pub layout_verdict : ℕ → Verdict
layout_verdict v = cond (eqb v layout) within (Err NotANumber)

-- R2.6
unfoldable pub level_verdict : ℕ → Verdict
level_verdict v = kind_verdict REAL 0 0x44BB8000 v

-- R3.5
unfoldable pub first_bad : Verdict → Verdict → Verdict
first_bad (Ok u) next = next
first_bad (Err e) next = Err e

-- a point's fields in card order: a bit is an enable as it stands, each number is judged
unfoldable pub point_verdict : List ℕ → Verdict
point_verdict fields =
    first_bad (level_verdict (get_or fields 2 0)) (first_bad (level_verdict (get_or fields 3 0)) (first_bad (level_verdict (get_or fields 4 0)) (level_verdict (get_or fields 5 0))))

unfoldable pub card_verdict : List ℕ → Verdict
card_verdict card =
    first_bad (layout_verdict (field (bits card) 0 4)) (first_bad (point_verdict (fields_of card point_1)) (point_verdict (fields_of card point_2)))

-- ---- writing a card

-- the values with a point's fields as its entries, from a place on
unfoldable pub with_point : List ℕ → ℕ → List ℕ → List ℕ
with_point values at fields =
    put_number
    (put_number
    (put_number
    (put_number (put_number (put_number values (at + high_enable) 1 (get_or fields 0 0)) (at + low_enable) 1 (get_or fields 1 0)) (at + high_level) 4 (get_or fields 2 0))
    (at + high_hysteresis)
    4
    (get_or fields 3 0))
    (at + low_level)
    4
    (get_or fields 4 0))
    (at + low_hysteresis)
    4
    (get_or fields 5 0)

unfoldable pub with_card : List ℕ → List ℕ → List ℕ
with_card values card = with_point (with_point values settings_1 (fields_of card point_1)) settings_2 (fields_of card point_2)
