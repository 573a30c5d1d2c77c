-- `window` meets its contract. Invariant: what is gathered is the field of the bytes passed. Assumes nothing.
use Rattle.std.proofs.Common.{◌*◌, sym, arith}
use Rattle.bits.proofs.Parts.{field_zero, field_fits}
use Rattle.bits.proofs.Shifts.{window_turn}
use Rattle.bits.proofs.window.Goals as goal

pub loop-byte-init : goal.loop-byte-init
loop-byte-init c = sym (field_zero _ _)

pub overflow_mul-acc : goal.overflow_mul-acc
overflow_mul-acc c =
    omega (arith, c.loop-byte.invariant, field_fits c.args.s.now (8 * c.args.first) (8 * c.loop-byte.byte-index) 56 (omega arith))

pub overflow_add-acc : goal.overflow_add-acc
overflow_add-acc c =
    omega (arith, c.loop-byte.invariant, field_fits c.args.s.now (8 * c.args.first) (8 * c.loop-byte.byte-index) 56 (omega arith))

pub loop-byte-preserved : goal.loop-byte-preserved
loop-byte-preserved c =
    window_turn c.args.s.now c.args.first _ c.loop-byte.byte-index c.loop-byte.acc c.from.result (λ k. (c.type_inv.s k).fits) (omega arith) (omega arith) c.loop-byte.invariant c.from.ensures
