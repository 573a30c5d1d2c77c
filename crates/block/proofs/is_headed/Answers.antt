-- `is_headed`: layout and model, one after the other. Assumes nothing.
use mathlib.Core.Path.{ap}
use Prim.Native.Nat.{ℕ}
use lib.Dec.{eqb}
use borrow.Author.Tests.{eq-eqb, ne_eqb}
use Rattle.block.specs.Block.{LAYOUT, BAG552, headed}
use Rattle.block.proofs.is_headed.Goals as goal

pub returns-then-get_field-ne-LAYOUT : goal.returns-then-get_field-ne-LAYOUT
unfolding headed
returns-then-get_field-ne-LAYOUT c = rw (← c.get_field.ensures, ne_eqb c.get_field.result LAYOUT c.if-get_field-ne-LAYOUT.true)

pub returns : goal.returns
unfolding headed
returns c =
    rw (← c.get_field.ensures, eq-eqb c.get_field.result LAYOUT c.if-get_field-ne-LAYOUT.false) (ap (λ (m : ℕ). eqb m BAG552) c.get_field-2.ensures)
