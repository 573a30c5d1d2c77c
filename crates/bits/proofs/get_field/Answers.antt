-- `get_field` meets its contract: the field is cut out of the bytes that it touches. Assumes nothing.
use mathlib.Core.Path.{◌≡◌}
use Prim.Native.Nat.{◌-◌, ◌*◌, ◌/◌, ◌%◌, ◌^◌, ◌+◌}
use native.Mathlib.Omega.{arith}
use Rattle.bits.specs.Bits.{bits, field}
use Rattle.bits.proofs.Parts.{field_fits}
use Rattle.bits.proofs.Shifts.{one_shifted, field_got}
use Rattle.bits.proofs.get_field.Goals as goal

got : (c : goal.After-window-v)
    → (c.window-v.result / 2 ^ (8 * ((c.args.at + c.args.width + 7) / 8) - c.args.at - c.args.width)) % ((1 * 2 ^ c.args.width) % 2 ^ 64)
    ≡ field (bits c.args.s.now) c.args.at c.args.width
got c = rw (one_shifted c.args.width (omega arith)) (field_got c.args.s.now c.args.at c.args.width (omega arith) c.window-v.result c.window-v.ensures)

pub returns : goal.returns
returns c = got c

pub overflow_cast-result : goal.overflow_cast-result
overflow_cast-result c = omega (arith, got c, field_fits c.args.s.now c.args.at c.args.width 32 (omega arith))
