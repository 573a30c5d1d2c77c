-- SHAPE: the areas of the index (R16.6), in their order: the last index of each, and whether the table has no rows there. Assumes nothing.
use Rattle.std.specs.Prelude.{Bool, true, false, cond, List, [], ◌∷◌, ℕ, leb}

pub record Area : Type 0 where
  pub last : ℕ
  pub empty : Bool

abbrev pub area : ℕ → Bool → Area
area l e = record { last = l; empty = e }

unfoldable pub areas : List Area
areas =
    -- before the first area
    area 0x0FFF true ∷
    -- communication
    area 0x1FFF false ∷
    -- manufacturer: the house rows
    area 0x5FFF false ∷
    -- input
    area 0x6FFF false ∷
    -- output
    area 0x7FFF true ∷
    -- configuration
    area 0x8FFF false ∷
    -- information
    area 0x9FFF false ∷
    -- diagnosis, service transfer, reserved
    area 0xEFFF true ∷
    -- device
    area 0xFFFF false ∷
    []

-- an index lies in the first area that does not end before it
unfoldable pub empty_in : List Area → ℕ → Bool
empty_in [] i = true
empty_in (a ∷ rest) i = cond (leb i a.last) a.empty (empty_in rest i)

-- has the area of an index no rows?
abbrev pub in_empty_area : ℕ → Bool
in_empty_area i = empty_in areas i
