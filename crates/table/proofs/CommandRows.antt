-- A command word's row by its number: which of them it is says its index. Assumes nothing.
use mathlib.Core.Path.{◌≡◌, sym, ap, ◌∙◌}
use mathlib.Core.Bool.{Bool, true}
use mathlib.Core.Logic.{⊎_elim}
use Prim.Native.Nat.{ℕ, ◌<◌}
use native.Mathlib.Omega.{arith}
use lib.Dec.{T, eqb, eqb→eq}
use borrow.Author.Tests.{eq-eqb, ne_eqb}
use Rattle.table.specs.Row.{Row, no_row, COMMAND}
use Rattle.table.specs.Rows.{rows, row_count, at_row}
use Rattle.table.specs.Walk.{every}
use Rattle.table.specs.Rule.{pick}
use Rattle.table.specs.Find.{At, find_row}
use Rattle.table.proofs.Walks.{every-at, same_or_not}
use Rattle.table.proofs.Table.{rows-length, find_at, row-found}

-- computed once over the table: a command word stands at subindex 01
first : Row → Bool
first r = pick (eqb r.kind COMMAND) (eqb r.sub 1) true

all_first : T (every first rows)
unfolding every first pick rows
all_first = tt

first_sub : (k : ℕ) → k < row_count → (at_row k).kind ≡ COMMAND → (at_row k).sub ≡ 1
unfolding first pick
first_sub k h e = eqb→eq _ _ (rw e at (every-at first rows no_row all_first k (omega (arith, rows-length))))

module _ (i : ℕ) {n : ℕ} (found : find_row i 1 ≡ At n) (k : ℕ) (there : k < row_count) (command : (at_row k).kind ≡ COMMAND) where
  own : k ≡ n → (at_row k).index ≡ i
  own e = ap (λ (r : ℕ). (at_row r).index) e ∙ (find_at i 1 n found).index_is

  other : (at_row k).index ≡ i → k ≡ n
  other e =
      let f : find_row i 1 ≡ At k = row-found i 1 k (record { there = there; index_is = e; sub_is = first_sub k there command }) in
      let z : At k ≡ At n = sym f ∙ found in
      cc

  pub by_row : eqb (at_row k).index i ≡ eqb k n
  by_row = ⊎_elim
      (λ (e : k ≡ n). eq-eqb _ _ (own e) ∙ sym (eq-eqb k n e))
      (λ (e : k ≡ n → ⊥). ne_eqb _ _ (λ q. e (other q)) ∙ sym (ne_eqb k n e))
      (same_or_not k n)
