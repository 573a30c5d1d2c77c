-- `gate::lock::guards`: by NV mark, type and row. Assumes nothing.
use mathlib.Core.Path.{◌≡◌, refl, sym, ◌∙◌}
use mathlib.Core.Bool.{Bool, false}
use Prim.Native.Nat.{ℕ}
use native.Mathlib.Omega.{arith}
use lib.Dec.{eqb}
use borrow.Author.Tests.{ne_eqb}
use Rattle.table.specs.Row.{CARD, COMMAND}
use Rattle.table.specs.Rows.{rows, at_row}
use Rattle.table.specs.Find.{find_from, find_row}
use Rattle.table.proofs.CommandRows.{by_row}
use Rattle.gate.specs.Lock.{guarded}
use Rattle.gate.proofs.lock.guards.Goals as goal

-- a command word that is neither NV nor card is guarded by its index

word : (k : ℕ) {b : Bool} → eqb (at_row k).nv 1 ≡ false → (at_row k).kind ≡ COMMAND → eqb (at_row k).index 0xFBF4 ≡ b → b ≡ guarded (at_row k)
unfolding guarded
word k n e i = sym (rw (n, e) i)

pub returns-then-is_nv : goal.returns-then-is_nv
unfolding guarded
returns-then-is_nv c = rw (sym c.if-is_nv.ensures)

pub returns-in-7 : goal.returns-in-7
unfolding guarded
returns-in-7 c = rw (sym c.if-is_nv.ensures, sym c.kind.ensures.kind ∙ c.in-7.is)

pub returns-in-8 : goal.returns-in-8
unfolding find_row find_from rows
returns-in-8 c =
    let command = sym c.kind.ensures.kind ∙ c.in-8.is in
    rw c.number.ensures.number (word c.args.row (sym c.if-is_nv.ensures) command (by_row 0xFBF4 refl c.args.row c.kind.ensures.row command))

pub returns-in_default : goal.returns-in_default
unfolding guarded
returns-in_default c =
    rw (sym c.if-is_nv.ensures, ne_eqb (at_row c.args.row).kind CARD (λ q. omega (arith, q)), ne_eqb (at_row c.args.row).kind COMMAND (λ q. omega (arith, q)))
