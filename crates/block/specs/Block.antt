-- RULE: THE SAVED BLOCK of any rows (R4.1 to R4.3).
use Rattle.std.specs.Prelude.{Bool, true, cond, ◌&&◌, List, [], ◌∷◌, ◌++◌, ℕ, ◌+◌, ◌-◌, ◌*◌, leb, eqb, take, drop, replicate}
use Rattle.bits.specs.Bits.{msb, bits, num, field, packed}
use Rattle.limits.specs.Limits.{number_verdict, verdict_code}
use Rattle.table.specs.Row.{Row, BOOL, REAL}
use Rattle.wire.specs.Little.{little, from_little, number}
use Rattle.wire.specs.Splice.{splice}

abbrev pub LAYOUT : ℕ
LAYOUT = 1

abbrev pub BAG552 : ℕ
BAG552 = 1

-- ---- one entry

-- how many bits it takes (R4.2)
unfoldable pub width : ℕ → ℕ → ℕ
width kind len = cond (eqb kind BOOL) 1 (8 * len)

abbrev pub row_width : Row → ℕ
row_width r = width r.kind r.len

-- its bytes in the values
abbrev pub part : List ℕ → Row → List ℕ
part values r = take r.len (drop r.place values)

-- its bytes as bits
unfoldable pub entry_bits : ℕ → ℕ → List ℕ → List ℕ
entry_bits kind len bytes = cond (leb kind REAL) (msb (width kind len) (from_little bytes)) (bits bytes)

-- the bits that come first as its bytes
unfoldable pub entry_bytes : ℕ → ℕ → List ℕ → List ℕ
entry_bytes kind len bs = cond (leb kind REAL) (little len (num (take (width kind len) bs))) (packed len bs)

-- is a value within the limits of its row? A string has none.
unfoldable pub within : Row → ℕ → Bool
within r v = eqb (verdict_code (number_verdict r v)) 0

-- ---- the NV entries in the order of the table (R4.2)

unfoldable pub nv_rows : List Row → List Row
nv_rows [] = []
nv_rows (r ∷ rs) = cond (eqb r.nv 1) (r ∷ nv_rows rs) (nv_rows rs)

unfoldable pub widths : List Row → ℕ
widths [] = 0
widths (r ∷ rs) = row_width r + widths rs

-- the entries' bits
unfoldable pub saved : List ℕ → List Row → List ℕ
saved values [] = []
saved values (r ∷ rs) = entry_bits r.kind r.len (part values r) ++ saved values rs

-- the values with the entries from the bits bs, the first from bit at on
unfoldable pub load_rows : List ℕ → ℕ → List Row → List ℕ → List ℕ
load_rows bs at [] values = values
load_rows bs at (r ∷ rs) values =
    load_rows bs (at + row_width r) rs (splice values r.place (entry_bytes r.kind r.len (drop at bs)))

-- are all entries within their limits, in the values and in the bits?
unfoldable pub values_good : List ℕ → List Row → Bool
values_good values [] = true
values_good values (r ∷ rs) = within r (number values r.place r.len) && values_good values rs

unfoldable pub rows_good : List ℕ → ℕ → List Row → Bool
rows_good bs at [] = true
rows_good bs at (r ∷ rs) = within r (field bs at (row_width r)) && rows_good bs (at + row_width r) rs

-- ---- the block

unfoldable pub all_zero : List ℕ → Bool
all_zero [] = true
all_zero (b ∷ bs) = eqb b 0 && all_zero bs

-- its 4,096 bits
unfoldable pub block_of : ℕ → List ℕ → List Row → List ℕ
block_of model values rs = msb 4 LAYOUT ++ (msb 4 model ++ (saved values rs ++ replicate (4096 - (8 + widths rs)) 0))

-- layout and model are the ones that are known here
unfoldable pub headed : ℕ → List ℕ → Bool
headed model bs = eqb (field bs 0 4) LAYOUT && eqb (field bs 4 4) model

-- not faulty by its head, its entries and its rest (R4.3)
unfoldable pub good : ℕ → List ℕ → List Row → Bool
good model bs rs =
    headed model bs && (rows_good bs 8 rs && all_zero (drop (8 + widths rs) bs))
