-- RULE: THE TABLE'S RULE, as one test over a whole table (R1.2 to R1.5, R2.2, R2.3, R2.7). Assumes nothing.
use Rattle.std.specs.Prelude.{Bool, true, false, List, [], ◌∷◌, ℕ, ◌+◌, ◌*◌, ◌%◌, ◌-◌, ◌^◌, leb, ltb, eqb, get_or}
use Rattle.table.specs.Row.{Row, BOOL, ULINT, REAL, STRING, CARD}
use Rattle.table.specs.Walk.{both, all, every, chain}

unfoldable pub pick : {A : Type 0} → Bool → A → A → A
pick true a b = a
pick false a b = b

-- one number for index and subindex
unfoldable pub key : Row → ℕ
key r = r.index * 256 + r.sub

-- is the entry one number?
unfoldable pub is_number : Row → Bool
is_number r = leb r.kind REAL

-- the bytes that an entry has in the values (R1.3)
unfoldable pub held : Row → ℕ
unfolding pick
held r = pick (leb CARD r.kind) 0 r.len

-- the bits that an entry has in the saved block (R4.2)
unfoldable pub block_bits : Row → ℕ
unfolding pick
block_bits r = pick (eqb r.nv 1) (pick (eqb r.kind BOOL) 1 (8 * r.len)) 0

unfoldable pub block_sum : List Row → ℕ
block_sum [] = 0
block_sum (r ∷ rs) = block_bits r + block_sum rs

-- The place of 32 bits that are no NaN's in the order of the REALs: both zeros have one place.
unfoldable pub real_rank : ℕ → ℕ
unfolding pick
real_rank b = pick (ltb b 2147483648) (2147483648 + b) (4294967296 - b)

-- the place of a value in the order of its type
unfoldable pub rank : ℕ → ℕ → ℕ
unfolding pick
rank kind v = pick (eqb kind REAL) (real_rank v) v

-- a REAL's limits are finite (R2.3)
unfoldable pub finite_pattern : ℕ → Bool
finite_pattern b = ltb (b % 2147483648) 2139095040

-- the length that each type has; the strings' and command words' are their own
unfoldable pub width_of : Row → ℕ
width_of r = get_or (1 ∷ 1 ∷ 2 ∷ 4 ∷ 8 ∷ 4 ∷ r.len ∷ 33 ∷ []) r.kind r.len

-- the tests of one row
unfoldable pub row_tests : Row → List Bool
unfolding pick
row_tests r =
    leb 1 r.len ∷
    leb r.len 64 ∷
    leb (r.place + held r) 1024 ∷
    ltb r.index 65536 ∷
    ltb r.sub 256 ∷
    leb r.kind 8 ∷
    leb 1 r.access ∷
    leb r.access 3 ∷
    leb r.nv 1 ∷
    eqb r.len (width_of r) ∷
    pick (eqb r.nv 1) (both (leb r.kind 6) (pick (eqb r.kind ULINT) false true)) true ∷
    pick (eqb r.kind REAL) (both (finite_pattern r.low) (finite_pattern r.high)) true ∷
    leb (rank r.kind r.low) (rank r.kind r.high) ∷
    leb (rank r.kind r.low) (rank r.kind r.def) ∷
    leb (rank r.kind r.def) (rank r.kind r.high) ∷
    pick (is_number r) (ltb r.low (2 ^ (8 * r.len))) true ∷
    pick (is_number r) (ltb r.high (2 ^ (8 * r.len))) true ∷
    pick (is_number r) (ltb r.def (2 ^ (8 * r.len))) true ∷
    pick (eqb r.kind BOOL) (leb r.high 1) true ∷
    pick (eqb r.kind ULINT) (both (eqb r.low 0) (eqb r.high 0xFFFFFFFFFFFFFFFF)) true ∷
    pick (leb STRING r.kind) (eqb r.low 0) true ∷
    pick (leb STRING r.kind) (eqb r.high 0) true ∷
    pick (leb STRING r.kind) (eqb r.def 0) true ∷
    []

unfoldable pub row_ok : Row → Bool
row_ok r = all (row_tests r)

-- of a row and the next: the keys rise, and the places do not overlap
unfoldable pub next_ok : Row → Row → Bool
next_ok a b = both (ltb (key a) (key b)) (leb (a.place + held a) b.place)

-- the saved block begins with 8 bits of layout and model
unfoldable pub table_ok : List Row → Bool
table_ok rs = both (every row_ok rs) (both (chain next_ok rs) (leb (8 + block_sum rs) 4096))
