-- The table itself: it passes the rule, and what callers use of its rows and of the way to a row. Assumes nothing.
use mathlib.Core.Path.{◌≡◌, refl, subst}
use mathlib.Core.Bool.{false}
use mathlib.Core.Logic.{◌⊎◌}
use Prim.Native.Nat.{ℕ, ◌+◌, ◌<◌, ◌≤◌}
use native.Mathlib.Omega.{arith}
use lib.Dec.{T}
use lib.ListN.{length}
use borrow.Author.Tests.{lt-leb}
use Rattle.table.specs.Row.{CARD}
use Rattle.table.specs.Rows.{rows, row_count, lock_row, at_row}
use Rattle.table.specs.Walk.{all, every, linked, chain}
use Rattle.table.specs.Rule.{pick, key, held, block_bits, block_sum, is_number, real_rank, rank, finite_pattern, width_of, row_tests, row_ok, next_ok, table_ok}
use Rattle.table.specs.Find.{At, NoIndex, NoSub, find_from, find_row}
use Rattle.table.proofs.Rules.{RowRule, rule_at, found_once, apart-at}
use Rattle.table.proofs.Searched.{Has, LacksIndex, at_has, absent_index}

-- THE RULE, computed once over the whole table
pub rows_pass : T (table_ok rows)
unfolding rows all every linked chain pick key held block_bits block_sum is_number real_rank rank finite_pattern width_of row_tests row_ok next_ok table_ok
rows_pass = tt

pub rows-length : length rows ≡ row_count
unfolding rows
rows-length = refl

pub row_rule : (k : ℕ) → k < row_count → RowRule (at_row k)
row_rule k h = rule_at rows rows_pass k (omega (arith, rows-length))

-- two different rows' bytes are disjoint
pub disjoint : (j k : ℕ) → j < row_count → k < row_count → (j ≡ k → ⊥)
    → ((at_row j).place + held (at_row j) ≤ (at_row k).place) ⊎ ((at_row k).place + held (at_row k) ≤ (at_row j).place)
disjoint j k hj hk d = apart-at rows rows_pass j k (omega (arith, rows-length)) (omega (arith, rows-length)) d

-- a stored entry's bytes lie inside the values
pub placed : (k : ℕ) → k < row_count → (at_row k).kind < CARD → (at_row k).place + (at_row k).len ≤ 1024
unfolding held pick
placed k h s = rw (lt-leb CARD (at_row k).kind s) at (row_rule k h).inside

-- row r has the key
pub record Keyed (i s r : ℕ) : Type 0 where
  pub there : r < row_count
  pub index_is : (at_row r).index ≡ i
  pub sub_is : (at_row r).sub ≡ s

-- a found row is inside the table and has the key
pub find_at : (i s r : ℕ) → find_row i s ≡ At r → Keyed i s r
unfolding find_row
find_at i s r e =
    let f = at_has rows 0 false i s r e in
    let z : f.0 ≡ r = omega arith in
    let h : Has rows i s r = subst (Has rows i s) z f.2 in
    record { there = omega (arith, rows-length); index_is = h.index_is; sub_is = h.sub_is }

pub no_index_find : (i s : ℕ) → LacksIndex rows i → find_row i s ≡ NoIndex
unfolding find_row
no_index_find i s f = absent_index rows 0 false i s f

-- each row is found by its key
pub row-found : (i s r : ℕ) → Keyed i s r → find_row i s ≡ At r
unfolding find_row
row-found i s r k =
    found_once rows rows_pass i s r (record { there = omega (arith, k.there, rows-length); index_is = k.index_is; sub_is = k.sub_is })

-- examples A, D and E: the lock has a row, its subindex 01 has none, index 2004 has none
pub lock-found : find_row 0x2003 0 ≡ At lock_row
unfolding find_row find_from rows
lock-found = refl

pub lock_sub_absent : find_row 0x2003 1 ≡ NoSub
unfolding find_row find_from rows
lock_sub_absent = refl

pub index_2004_absent : find_row 0x2004 0 ≡ NoIndex
unfolding find_row find_from rows
index_2004_absent = refl
