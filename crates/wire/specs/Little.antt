-- RULE: whole numbers in bytes, the lowest first (R2.1).
use Rattle.std.specs.Prelude.{List, [], ◌∷◌, ℕ, zero, suc, ◌+◌, ◌*◌, ◌/◌, ◌%◌, take, drop}
use Rattle.wire.specs.Splice.{splice}

-- the n bytes of v, lowest first
unfoldable pub little : ℕ → ℕ → List ℕ
little zero v = []
little (suc n) v = v % 256 ∷ little n (v / 256)

-- the number of these bytes, lowest first
unfoldable pub from_little : List ℕ → ℕ
from_little [] = 0
from_little (b ∷ bs) = b + 256 * from_little bs

-- the number in the n bytes from at on
unfoldable pub number : List ℕ → ℕ → ℕ → ℕ
number l at n = from_little (take n (drop at l))

-- the list with v in the n bytes from at on
abbrev pub put_number : List ℕ → ℕ → ℕ → ℕ → List ℕ
put_number l at n v = splice l at (little n v)
