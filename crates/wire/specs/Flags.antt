-- RULE: flags in bytes: any byte but 0 is set (R3.6, R14.2).
use Rattle.std.specs.Prelude.{Bool, cond, not, List, ◌++◌, ℕ, eqb}
use Rattle.wire.specs.Little.{little, number}

-- the byte at a place is other than 0
unfoldable pub is_set : List ℕ → ℕ → Bool
is_set l at = not (eqb (number l at 1) 0)

-- a flag as a number
abbrev pub bit : Bool → ℕ
bit b = cond b 1 0

-- four flags, a byte each
abbrev pub flags : Bool → Bool → Bool → Bool → List ℕ
flags a b c d = little 1 (bit a) ++ (little 1 (bit b) ++ (little 1 (bit c) ++ little 1 (bit d)))
