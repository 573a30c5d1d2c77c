-- RULE: the cyclic image (R12.1).
use Rattle.std.specs.Prelude.{List, [], ◌∷◌, ℕ, ◌+◌, ◌*◌, ◌^◌}
use Rattle.wire.specs.Little.{little, number}
use Rattle.wire.specs.Flags.{is_set, bit}
use Rattle.table.specs.Places.{input_value, reading_valid, overrange, underrange, summary_byte, trip_outputs}

-- some bits of a mapping: how many, and their number
pub record Mapped : Type 0 where
  pub bits : ℕ
  pub holds : ℕ

abbrev pub mapped : ℕ → ℕ → Mapped
mapped n v = record { bits = n; holds = v }

-- one behind the other, the first lowest
unfoldable pub in_order : List Mapped → ℕ
in_order [] = 0
in_order (m ∷ ms) = m.holds + 2 ^ m.bits * in_order ms

-- 1A00:01 to 05, then 1BFE:01 and 08
unfoldable pub mapping : List ℕ → List Mapped
mapping l =
    mapped 1 (bit (is_set l reading_valid)) ∷
    mapped 1 (bit (is_set l overrange)) ∷
    mapped 1 (bit (is_set l underrange)) ∷
    mapped 5 0 ∷
    mapped 32 (number l input_value 4) ∷
    mapped 8 (number l summary_byte 1) ∷
    mapped 32 (number l trip_outputs 4) ∷
    []

-- 80 bits
unfoldable pub image_of : List ℕ → List ℕ
image_of l = little 10 (in_order (mapping l))
