-- `command::word::command_at`: by the row, whose number says its index. Assumes nothing.
use mathlib.Core.Path.{◌≡◌, refl, sym, ◌∙◌}
use mathlib.Core.Bool.{false}
use Prim.Native.Nat.{ℕ}
use lib.Dec.{eqb}
use native.Mathlib.Omega.{arith}
use borrow.Author.Tests.{ne_eqb}
use Rattle.table.specs.Rows.{rows, at_row}
use Rattle.table.specs.Find.{find_from, find_row}
use Rattle.table.proofs.CommandRows.{by_row}
use Rattle.command.specs.Words.{command_at}
use Rattle.command.specs.declared.word.Command.TheVariants.{LoadParameters}
use Rattle.command.proofs.word.command_at.Goals as goal

left : (i : ℕ) → eqb i 0xFBF0 ≡ false → eqb i 0xFBF1 ≡ false → eqb i 0xFBF2 ≡ false → LoadParameters ≡ command_at i
unfolding command_at
left i a b c = rw (a, b, c)

pub returns-in-117 : goal.returns-in-117
unfolding command_at rows
returns-in-117 c = rw (sym c.number.ensures.number ∙ c.in-117.is)

pub returns-in-120 : goal.returns-in-120
unfolding command_at rows
returns-in-120 c = rw (sym c.number.ensures.number ∙ c.in-120.is)

pub returns-in-123 : goal.returns-in-123
unfolding command_at rows
returns-in-123 c = rw (sym c.number.ensures.number ∙ c.in-123.is)

pub returns-in_default : goal.returns-in_default
unfolding find_row find_from rows
returns-in_default c =
    left (at_row c.args.row).index (by_row 0xFBF0 refl c.args.row c.number.ensures.row c.requires ∙ ne_eqb _ _ (λ e. omega (arith, e))) (by_row 0xFBF1 refl c.args.row c.number.ensures.row c.requires ∙ ne_eqb _ _ (λ e. omega (arith, e))) (by_row 0xFBF2 refl c.args.row c.number.ensures.row c.requires ∙ ne_eqb _ _ (λ e. omega (arith, e)))
