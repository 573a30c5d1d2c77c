-- The NV rows of ANY table that passes the table's test. Assumes nothing.
use mathlib.Core.Bool.{true}
use mathlib.Core.List.{List, [], ◌∷◌}
use mathlib.Core.Logic.{⊎_elim}
use mathlib.Core.Path.{◌≡◌, refl}
use Prim.Native.Nat.{ℕ, zero, suc, ◌+◌, ◌≤◌, ◌<◌, zero-le, suc-le-suc}
use native.Mathlib.Nat.{not-suc-le-zero, le_of_suc-le-suc}
use native.Mathlib.Omega.{arith}
use lib.Dec.{T, ltb, leb→le}
use lib.ListN.{length, get_or}
use Rattle.block.proofs.Kept.{Kept, kept}
use Rattle.block.proofs.RoundTrips.{Rising, Clear, rising_below}
use Rattle.block.proofs.Walking.{Keeps, nv_cons, nv_other, nv_keeps, widths_sum}
use Rattle.block.specs.Block.{nv_rows, widths}
use Rattle.table.proofs.Rules.{row_ok→rule, block-fits}
use Rattle.table.proofs.Walks.{both_left, both_right, same_or_not}
use Rattle.table.specs.Row.{Row, no_row}
use Rattle.table.specs.Rule.{key, held, row_ok, next_ok, table_ok}
use Rattle.table.specs.Walk.{every, linked, chain}
use Rattle.wire.specs.Splice.{apart}

-- ---- the NV rows' places rise

linked_rising : (x : Row) (ys : List Row) → T (linked next_ok x ys) → T (every row_ok ys) → Rising (x.place + held x) (nv_rows ys)
unfolding linked next_ok every nv_rows Rising
linked_rising x [] t o = tt
linked_rising x (y ∷ ys) t o =
    let g : x.place + held x ≤ y.place = leb→le _ _ (both_right (ltb (key x) (key y)) _ (both_left (next_ok x y) (linked next_ok y ys) t)) in
    let rest : Rising (y.place + held y) (nv_rows ys) =
    linked_rising y ys (both_right (next_ok x y) (linked next_ok y ys) t) (both_right (row_ok y) (every row_ok ys) o) in
    ⊎_elim
    (λ e.
    let k : Kept y = kept y (row_ok→rule y (both_left (row_ok y) (every row_ok ys) o)) e in
    rw (nv_cons y ys e) (g, rw k.held_all at rest))
    (λ d. rw (nv_other y ys d) (rising_below (nv_rows ys) (x.place + held x) (y.place + held y) (omega arith) rest))
    (same_or_not y.nv 1)

chain_rising : (rs : List Row) → T (chain next_ok rs) → T (every row_ok rs) → Rising 0 (nv_rows rs)
unfolding chain every nv_rows Rising
chain_rising [] t o = tt
chain_rising (r ∷ rs) t o =
    let rest : Rising (r.place + held r) (nv_rows rs) = linked_rising r rs t (both_right (row_ok r) (every row_ok rs) o) in
    ⊎_elim
    (λ e.
    let k : Kept r = kept r (row_ok→rule r (both_left (row_ok r) (every row_ok rs) o)) e in
    rw (nv_cons r rs e) (zero-le, rw k.held_all at rest))
    (λ d. rw (nv_other r rs d) (rising_below (nv_rows rs) 0 (r.place + held r) zero-le rest))
    (same_or_not r.nv 1)

-- ---- a row of the table among the NV rows, and a part beside them

pub record Among (rs : List Row) (r : Row) : Type 0 where
  pub nth : ℕ
  pub there : nth < length rs
  pub is : get_or rs nth no_row ≡ r

pub nv-among : (rs : List Row) (k : ℕ) → k < length rs → (get_or rs k no_row).nv ≡ 1 → Among (nv_rows rs) (get_or rs k no_row)
unfolding nv_rows
nv-among [] k h e = absurd (not-suc-le-zero h)
nv-among (r ∷ rs) zero h e = rw (nv_cons r rs e) (record { nth = 0; there = suc-le-suc zero-le; is = refl })
nv-among (r ∷ rs) (suc k) h e =
    let a : Among (nv_rows rs) (get_or rs k no_row) = nv-among rs k (le_of_suc-le-suc h) e in
    ⊎_elim
    (λ m. rw (nv_cons r rs m) (record { nth = suc a.nth; there = suc-le-suc a.there; is = a.is }))
    (λ d. rw (nv_other r rs d) a)
    (same_or_not r.nv 1)

pub nv-clear : (rs : List Row) (q m : ℕ) → ((k : ℕ) → k < length rs → (get_or rs k no_row).nv ≡ 1 → apart (get_or rs k no_row).place (get_or rs k no_row).len q m ≡ true) → Clear (nv_rows rs) q m
unfolding nv_rows Clear
nv-clear [] q m f = tt
nv-clear (r ∷ rs) q m f =
    let rest : Clear (nv_rows rs) q m = nv-clear rs q m (λ k h e. f (suc k) (suc-le-suc h) e) in
    ⊎_elim (λ e. rw (nv_cons r rs e) (f 0 (suc-le-suc zero-le) e, rest)) (λ d. rw (nv_other r rs d) rest) (same_or_not r.nv 1)

-- ---- a table that passes

module _ (rs : List Row) (pass : T (table_ok rs)) where
  rows_ok : T (every row_ok rs)
  unfolding table_ok
  rows_ok = both_left (every row_ok rs) _ pass

  pub table_keeps : Keeps (nv_rows rs)
  table_keeps = nv_keeps rs rows_ok

  pub table_rises : Rising 0 (nv_rows rs)
  unfolding table_ok
  table_rises = chain_rising rs (both_left (chain next_ok rs) _ (both_right (every row_ok rs) _ pass)) rows_ok

  pub table_used : 8 + widths (nv_rows rs) ≤ 4096
  table_used = omega (arith, block-fits rs pass, widths_sum rs)
