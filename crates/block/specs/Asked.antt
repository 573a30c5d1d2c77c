-- SHAPE: what the functions ask and give: of the columns, of an entry, of a walk over the NV rows.
use Rattle.std.specs.Prelude.{Bool, cond, not, ◌&&◌, List, [], ◌∷◌, ◌≡◌, ℕ, suc, ◌+◌, ◌/◌, ◌≤◌, leb, take, get_or}
use Rattle.bits.specs.Bits.{field}
use Rattle.block.specs.Block.{row_width, within}
use Rattle.block.specs.Saved.{saved_rows}
use Rattle.crossed.specs.Crossed.{crossed}
use Rattle.limits.specs.Limits.{number_len}
use Rattle.table.specs.Row.{Row, REAL}
use Rattle.table.specs.Rows.{nv_end, nv_point_1, nv_point_2, nv_high_enable, nv_low_enable, nv_high_level, nv_low_level}
use Rattle.table.specs.Rule.{rank}
use Rattle.wire.specs.Little.{number}

-- ---- the columns of the NV rows

-- the bit at which each entry begins, the first at bit at, and the bit behind the last
unfoldable pub starts : ℕ → List Row → List ℕ
starts at [] = at ∷ []
starts at (r ∷ rs) = at ∷ starts (at + row_width r) rs

-- the bits that are looked at as a number: of a string the first 32, which no limit refuses
unfoldable pub cut : Row → ℕ
cut r = cond (leb r.kind REAL) (row_width r) 32

-- limits, as places in the order of the type
unfoldable pub lowest : Row → ℕ
lowest r = rank r.kind r.low

unfoldable pub highest : Row → ℕ
highest r = cond (leb r.kind REAL) (rank r.kind r.high) 4294967295

-- ---- an entry

-- the bytes of an entry, by its type and its bits
unfoldable pub entry_len : ℕ → ℕ → ℕ
entry_len kind width = cond (leb kind REAL) (number_len kind) (width / 8)

-- an entry whose bytes lie in the values
pub record Sized (kind len place : ℕ) : Type 0 where
  pub most : len ≤ 64
  pub some : 1 ≤ len
  pub short : kind ≤ REAL → len ≤ 4
  pub inside : place + len ≤ 1024

unfoldable pub between : ℕ → ℕ → ℕ → Bool
between low high x = leb low x && leb x high

-- ---- the block that a store fills: its bytes up to the last entry, with eight bytes of room to add a field

abbrev pub fresh_bytes : ℕ
fresh_bytes = (nv_end + 7) / 8 + 8

-- ---- a walk

-- how many entries stand before the first that is outside its limits, in the values and in the bits
unfoldable pub held_front : List ℕ → List Row → ℕ
held_front values [] = 0
held_front values (r ∷ rs) = cond (within r (number values r.place r.len)) (suc (held_front values rs)) 0

unfoldable pub saved_front : List ℕ → ℕ → List Row → ℕ
saved_front bs at [] = 0
saved_front bs at (r ∷ rs) = cond (within r (field bs at (row_width r))) (suc (saved_front bs (at + row_width r) rs)) 0

-- the entries' numbers
unfoldable pub saved_numbers : List ℕ → ℕ → List Row → List ℕ
saved_numbers bs at [] = []
saved_numbers bs at (r ∷ rs) = field bs at (cut r) ∷ saved_numbers bs (at + row_width r) rs

-- the first n of them are known
abbrev pub Front : List ℕ → List ℕ → ℕ → Type 0
Front bs numbers n = take n numbers ≡ take n (saved_numbers bs 8 saved_rows)

-- ---- the trip points among the entries' numbers; which entries are theirs is computed in proofs/Straight

-- the point whose entries begin with this one: both enables, the high and the low level
unfoldable pub crossed_by : List ℕ → ℕ → Bool
crossed_by numbers first =
    crossed (get_or numbers (first + nv_high_enable) 0) (get_or numbers (first + nv_low_enable) 0) (get_or numbers (first + nv_high_level) 0) (get_or numbers (first + nv_low_level) 0)

-- neither point is crossed (R3.7)
unfoldable pub straight_by : List ℕ → Bool
straight_by numbers = not (crossed_by numbers nv_point_1) && not (crossed_by numbers nv_point_2)
