-- `put_field` meets its contract: the field is merged into the bytes that it touches. Assumes nothing.
use mathlib.Core.Path.{◌∙◌}
use Prim.Native.Nat.{◌-◌, ◌*◌, ◌/◌, ◌+◌}
use native.Mathlib.Omega.{arith}
use Rattle.bits.proofs.Parts.{field_fits}
use Rattle.bits.proofs.Shifts.{field_spread}
use Rattle.bits.proofs.put_field.Goals as goal

pub merge-requires : goal.merge-requires
merge-requires c = (
  omega (arith, c.window-v.ensures, field_fits c.args.s.now (8 * (c.args.at / 8)) (8 * ((c.args.at + c.args.width + 7) / 8 - c.args.at / 8)) 40 (omega arith)),
  omega arith,
  rw c.from.ensures c.requires.3,
)

pub returns : goal.returns
returns c =
    c.spread.ensures
    ∙ field_spread c.args.s.now c.args.at c.args.width (omega arith) c.window-v.result c.merge.result c.args.value c.requires.3 c.window-v.ensures (rw c.from.ensures at c.merge.ensures)
