-- RULE: fields with no gap (R3.1, R4.2), each a width and a value.
use Rattle.std.specs.Prelude.{List, [], ◌∷◌, ◌++◌, ℕ, ◌+◌, ◌^◌, ◌≤◌, ◌<◌, take, drop}
use Rattle.bits.specs.Bits.{msb, num}

-- the values vs, each in as many bits as its width says
unfoldable pub encode : List ℕ → List ℕ → List ℕ
encode [] vs = []
encode (w ∷ ws) [] = []
encode (w ∷ ws) (v ∷ vs) = msb w v ++ encode ws vs

-- the values of fields of the widths ws
unfoldable pub decode : List ℕ → List ℕ → List ℕ
decode [] bs = []
decode (w ∷ ws) bs = num (take w bs) ∷ decode ws (drop w bs)

-- the bits of fields of the widths ws
unfoldable pub total : List ℕ → ℕ
total [] = 0
total (w ∷ ws) = w + total ws

-- a value for each width, of at most 32 bits, which hold the value
unfoldable pub Packable : List ℕ → List ℕ → Type 0
Packable [] [] = Unit
Packable [] (v ∷ vs) = ⊥
Packable (w ∷ ws) [] = ⊥
Packable (w ∷ ws) (v ∷ vs) = ((w ≤ 32) × (v < 2 ^ w)) × Packable ws vs
