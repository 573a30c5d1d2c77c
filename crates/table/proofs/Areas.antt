-- The area that an index lies in, and that an index of an area without rows is absent. Assumes nothing.
use mathlib.Core.Path.{◌≡◌}
use mathlib.Core.Bool.{Bool, true, not}
use mathlib.Core.List.{List, [], ◌∷◌}
use mathlib.Core.Logic.{⊎_elim}
use Prim.Native.Nat.{ℕ, zero, suc, ◌<◌, ◌≤◌}
use native.Mathlib.Nat.{le_of_suc-le-suc, not-suc-le-zero}
use native.Mathlib.Omega.{arith}
use lib.Dec.{T, ltb, ltb→lt}
use lib.ListN.{length, get_or}
use borrow.Author.Tests.{lt-leb, le-leb}
use Rattle.table.specs.Row.{Row, no_row}
use Rattle.table.specs.Rows.{rows}
use Rattle.table.specs.Walk.{every, linked, chain}
use Rattle.table.specs.Find.{NoIndex, find_row}
use Rattle.table.proofs.Walks.{every-at, chain_far, lt_or_ge}
use Rattle.table.proofs.Table.{no_index_find}
use Rattle.table.proofs.Searched.{LacksIndex}
use Rattle.table.specs.Areas.{Area, area, areas, empty_in, in_empty_area}

abbrev at-area : List Area → ℕ → Area
at-area xs k = get_or xs k (area 0 true)

-- behind the areas before it, and not behind its own last index
area_k : (xs : List Area) (k i : ℕ) → k < length xs → ((j : ℕ) → j < k → (at-area xs j).last < i) → i ≤ (at-area xs k).last → empty_in xs i ≡ (at-area xs k).empty
unfolding empty_in
area_k [] k i h below up = absurd (not-suc-le-zero h)
area_k (a ∷ xs) zero i h below up = rw (le-leb i a.last up)
area_k (a ∷ xs) (suc k) i h below up =
    rw (lt-leb i a.last (below 0 (omega arith))) (area_k xs k i (le_of_suc-le-suc h) (λ j l. below (suc j) (omega arith)) up)

abbrev rising : Area → Area → Bool
rising a b = ltb a.last b.last

-- computed once: the areas rise
areas_rise : T (chain rising areas)
unfolding chain linked areas
areas_rise = tt

pub first_area : (i : ℕ) → 0 < length areas → i ≤ (at-area areas 0).last → in_empty_area i ≡ (at-area areas 0).empty
first_area i h up = area_k areas 0 i h (λ j l. absurd (not-suc-le-zero l)) up

module _ (k i : ℕ) (there : k < length areas) (low : (at-area areas k).last < i) where
  behind : (j : ℕ) → j < suc k → (at-area areas j).last < i
  behind j l = ⊎_elim
      (λ (a : j < k). omega (arith, low, chain_far rising (λ x y. x.last < y.last) (λ x y. ltb→lt _ _) (λ x y z p q. omega arith) (area 0 true) areas areas_rise j k a there))
      (λ (a : k ≤ j). let e : j ≡ k = omega arith in rw e low)
      (lt_or_ge j k)

  -- behind area k the next one decides, up to its last index
  pub next-area : suc k < length areas → i ≤ (at-area areas (suc k)).last → in_empty_area i ≡ (at-area areas (suc k)).empty
  next-area h up = area_k areas (suc k) i h behind up

-- computed once over the table: no row lies in an empty area
rows_in_areas : T (every (λ (r : Row). not (in_empty_area r.index)) rows)
unfolding every empty_in areas rows
rows_in_areas = tt

pub area_absent : (i s : ℕ) → in_empty_area i ≡ true → find_row i s ≡ NoIndex
area_absent i s e = no_index_find i s none
  where
    none : LacksIndex rows i
    none m h q = rw (q, e) at (every-at (λ (r : Row). not (in_empty_area r.index)) rows no_row rows_in_areas m h)
