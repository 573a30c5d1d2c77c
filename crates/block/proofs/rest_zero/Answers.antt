-- `rest_zero`: the bits to the end of a byte, then bytes. Assumes nothing.
use mathlib.Core.Bool.{Bool, ◌&&◌}
use mathlib.Core.Path.{◌∙◌, sym, ap}
use Prim.Native.Nat.{◌+◌, ◌*◌, ◌/◌}
use native.Mathlib.Omega.{arith}
use lib.ListN.{drop}
use borrow.Author.Tests.{eq-eqb, ne_eqb}
use Rattle.bits.specs.Bits.{bits}
use Rattle.block.proofs.Whole.{rest_zero}
use Rattle.block.specs.Block.{all_zero}
use Rattle.block.proofs.rest_zero.Goals as goal

pub returns-then-get_field-ne0 : goal.returns-then-get_field-ne0
returns-then-get_field-ne0 c = sym (rest_zero (bits c.args.block.now) c.args.end ((c.args.end + 7) / 8) (omega arith) c.get_field.ensures ∙ ap (λ (b : Bool). b && all_zero (drop (8 * ((c.args.end + 7) / 8)) (bits c.args.block.now))) (ne_eqb _ _ c.if-get_field-ne0.true))

pub returns : goal.returns
returns c = c.bytes_zero.ensures ∙ sym (rest_zero (bits c.args.block.now) c.args.end ((c.args.end + 7) / 8) (omega arith) c.get_field.ensures ∙ ap (λ (b : Bool). b && all_zero (drop (8 * ((c.args.end + 7) / 8)) (bits c.args.block.now))) (eq-eqb _ _ c.if-get_field-ne0.false))
