-- SHAPE: what the code asks of a card's fields.
use Rattle.std.specs.Prelude.{Bool, ◌&&◌, List, ℕ, leb, get_or}
use Rattle.crossed.specs.Crossed.{crossed}

-- each number's pattern, as a whole number, is at most that of 1500: so it is within without more ado
unfoldable pub plainly_within : List ℕ → Bool
plainly_within fields =
    leb (get_or fields 2 0) 0x44BB8000 && (leb (get_or fields 3 0) 0x44BB8000 && (leb (get_or fields 4 0) 0x44BB8000 && leb (get_or fields 5 0) 0x44BB8000))

-- a point's fields are those of a crossed trip point (R3.7)
unfoldable pub fields_crossed : List ℕ → Bool
fields_crossed fields = crossed (get_or fields 0 0) (get_or fields 1 0) (get_or fields 2 0) (get_or fields 4 0)
