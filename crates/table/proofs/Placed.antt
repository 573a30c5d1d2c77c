-- Each named place is the table's place of its entry, and the latched entries fill their bytes: computed tests over the rows.
-- Assumes nothing.
use mathlib.Core.Bool.{Bool, false}
use mathlib.Core.List.{List, [], ◌∷◌, ◌++◌}
use Prim.Native.Nat.{ℕ, ◌+◌}
use lib.Dec.{T, eqb}
use Rattle.table.specs.Row.{Row}
use Rattle.table.specs.Rows.{rows, at_row}
use Rattle.table.specs.Walk.{both, every}
use Rattle.table.specs.Rule.{pick, held}
use Rattle.table.specs.Find.{Found, At, NoIndex, NoSub, find_from, find_row}
use Rattle.table.specs.Places.{Placed, named_places, latched_status, latched_size, latched}

-- the found row has the place and the length
unfoldable pub stands : Placed → Found → Bool
stands n (At r) = both (eqb (at_row r).place n.place) (eqb (at_row r).len n.len)
stands n NoIndex = false
stands n NoSub = false

pub places_are_the_table's : T (every (λ (n : Placed). stands n (find_row n.index n.sub)) named_places)
unfolding every stands find_row find_from rows named_places
places_are_the_table's = tt

-- the rows that pass a test
unfoldable pub those : (Row → Bool) → List Row → List Row
those test [] = []
those test (r ∷ rs) = pick (test r) (r ∷ []) [] ++ those test rs

-- the rows' bytes stand behind each other, from one place up to another
unfoldable pub fill : ℕ → ℕ → List Row → Bool
fill from end [] = eqb from end
fill from end (r ∷ rs) = both (eqb r.place from) (fill (from + held r) end rs)

-- the latched entries, and no others since two rows' bytes are disjoint, have the bytes that an exception reset clears
pub latched_rows_fill : T (fill latched_status (latched_status + latched_size) (those latched rows))
unfolding those fill latched held pick rows
latched_rows_fill = tt
