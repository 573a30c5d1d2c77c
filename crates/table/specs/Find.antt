-- RULE: THE WAY TO A ROW, as reading the whole table from the top gives it: the row, no index or no subindex (R1.2, R7.3).
-- Assumes nothing.
use Rattle.std.specs.Prelude.{Bool, true, false, List, [], ◌∷◌, ℕ, suc, eqb}
use Rattle.table.specs.Row.{Row}
use Rattle.table.specs.Rows.{rows, row_count}

-- what the way to a row comes to
pub data Found : Type 0 where
  At : ℕ → Found
  NoIndex : Found
  NoSub : Found

-- no row has the key: was its index seen?
abbrev pub absence : Bool → Found
absence true = NoSub
absence false = NoIndex

-- the row has the index or not, and the subindex or not: what is found here, and what the rest gives with the index seen and
-- with the index not seen here
abbrev pub choose : Bool → Bool → Found → Found → Found → Found
choose true true here seen other = here
choose true false here seen other = seen
choose false s here seen other = other

-- the first row of the list with the key; n is the number of the list's first row, and seen says whether an earlier row had
-- the index
unfoldable pub find_from : List Row → ℕ → Bool → ℕ → ℕ → Found
find_from [] n seen i s = absence seen
find_from (r ∷ rs) n seen i s =
    choose (eqb r.index i) (eqb r.sub s) (At n) (find_from rs (suc n) true i s) (find_from rs (suc n) seen i s)

unfoldable pub find_row : ℕ → ℕ → Found
find_row i s = find_from rows 0 false i s

-- the number of the row, behind the last where there is none
unfoldable pub row_number : Found → ℕ
row_number (At r) = r
row_number NoIndex = row_count
row_number NoSub = row_count
