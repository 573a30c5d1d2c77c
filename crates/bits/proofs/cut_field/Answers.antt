-- `cut_field` meets its contract: shifts leave the field alone in eight bytes. Assumes nothing.
use native.Mathlib.Omega.{arith}
use Rattle.bits.proofs.Parts.{field_fits}
use Rattle.bits.proofs.Shifts.{field_shifted}
use Rattle.bits.proofs.cut_field.Goals as goal

pub returns : goal.returns
returns c =
    field_shifted c.args.s.now c.args.at c.args.width (omega arith) (omega arith) c.window-x.result c.window-x.ensures

pub overflow_cast-result : goal.overflow_cast-result
overflow_cast-result c =
    omega (arith, field_shifted c.args.s.now c.args.at c.args.width (omega arith) (omega arith) c.window-x.result c.window-x.ensures, field_fits c.args.s.now c.args.at c.args.width 32 (omega arith))
