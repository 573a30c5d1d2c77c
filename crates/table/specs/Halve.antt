-- RULE: THE SEARCH BY HALVES: which rows are looked at for a key, and what they tell (R1.8, R1.9). Assumes nothing.
use Rattle.std.specs.Prelude.{Bool, true, cond, ◌&&◌, List, [], ◌∷◌, ℕ, zero, suc, ◌+◌, ◌-◌, ◌/◌, eqb, ltb, length, get_or}
use Rattle.table.specs.Row.{Row, no_row}
use Rattle.table.specs.Rows.{rows, row_count}
use Rattle.table.specs.Find.{Found, At, absence, choose}

-- the row in the middle of those from low up to high, which is outside
abbrev pub middle : ℕ → ℕ → ℕ
middle low high = low + (high - low) / 2

-- the row has the key; it stands before the key
unfoldable pub has_key : Row → ℕ → ℕ → Bool
has_key r i s = eqb r.index i && eqb r.sub s

unfoldable pub stands_before : Row → ℕ → ℕ → Bool
stands_before r i s = cond (eqb r.index i) (ltb r.sub s) (ltb r.index i)

-- The rows that are looked at for a key while those from low up to high are left, in order: the middle one and, unless it has the key,
-- those of the half where the key would stand. At most n of them.
unfoldable pub some_looks : ℕ → List Row → ℕ → ℕ → ℕ → ℕ → List ℕ
some_looks zero table i s low high = []
some_looks (suc n) table i s low high =
    let m = middle low high in
    let r = get_or table m no_row in
    let after = stands_before r i s in
    cond (ltb low high) (m ∷ cond (has_key r i s) [] (some_looks n table i s (cond after (m + 1) low) (cond after high m))) []

-- all of them: each look leaves fewer rows
unfoldable pub looks : List Row → ℕ → ℕ → ℕ → ℕ → List ℕ
looks table i s low high = some_looks (high - low) table i s low high

unfoldable pub look_count : ℕ → ℕ → ℕ
look_count i s = length (looks rows i s 0 row_count)

-- what rows that are looked at tell, as `find_from` says it of all rows; seen says whether an earlier one had the index
unfoldable pub told : List Row → ℕ → ℕ → Bool → List ℕ → Found
told table i s seen [] = absence seen
told table i s seen (m ∷ ms) =
    let r = get_or table m no_row in
    choose (eqb r.index i) (eqb r.sub s) (At m) (told table i s true ms) (told table i s seen ms)
