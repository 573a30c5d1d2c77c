-- RULE: the most significant bit first (R3.1, R4.1): bytes as the list of their bits, a number as bits, bits as a number.
use Rattle.std.specs.Prelude.{List, [], ◌∷◌, ◌++◌, ℕ, zero, suc, ◌+◌, ◌*◌, ◌/◌, ◌%◌, ◌^◌, ◌<◌, take, drop}

-- the w low bits of v, the highest first
unfoldable pub msb : ℕ → ℕ → List ℕ
msb zero v = []
msb (suc w) v = msb w (v / 2) ++ (v % 2 ∷ [])

-- the bits of bytes, byte after byte
unfoldable pub bits : List ℕ → List ℕ
bits [] = []
bits (x ∷ xs) = msb 8 x ++ bits xs

-- the number that bits say, the highest first, after those that said a
unfoldable pub num_from : ℕ → List ℕ → ℕ
num_from a [] = a
num_from a (b ∷ bs) = num_from (a * 2 + b) bs

unfoldable pub num : List ℕ → ℕ
num bs = num_from 0 bs

-- the number in the w bits from bit at on
unfoldable pub field : List ℕ → ℕ → ℕ → ℕ
field bs at w = num (take w (drop at bs))

-- the n bytes that bits say
unfoldable pub packed : ℕ → List ℕ → List ℕ
packed zero bs = []
packed (suc n) bs = num (take 8 bs) ∷ packed n (drop 8 bs)

-- the byte x with v in the n bits above its e low ones
unfoldable pub merged : ℕ → ℕ → ℕ → ℕ → ℕ
merged x n e v = x / 2 ^ (n + e) * 2 ^ (n + e) + (v * 2 ^ e + x % 2 ^ e)

-- bits are 0 or 1
unfoldable pub Small : List ℕ → Type 0
Small [] = Unit
Small (b ∷ bs) = (b < 2) × Small bs
