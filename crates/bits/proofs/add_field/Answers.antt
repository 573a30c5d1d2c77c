-- `add_field` meets its contract: onto zeros a value is merged by adding it. Assumes nothing.
use mathlib.Core.Path.{◌∙◌, ap}
use Prim.Native.Nat.{ℕ}
use native.Mathlib.Omega.{arith}
use Rattle.bits.proofs.Shifts.{sum_fits, field_added}
use Rattle.bits.specs.Bits.{bits, msb}
use Rattle.wire.specs.Splice.{splice}
use Rattle.bits.proofs.add_field.Goals as goal

pub returns : goal.returns
returns c =
    c.spread.ensures
    ∙ field_added c.args.s.now c.args.at c.args.width (omega arith) (omega arith) c.window-x.result c.window-x.ensures c.from.result (rw c.from.ensures c.requires.4) c.requires.5
    ∙ ap (λ (v : ℕ). splice (bits c.args.s.now) c.args.at (msb c.args.width v)) c.from.ensures

pub overflow_add-x : goal.overflow_add-x
overflow_add-x c =
    record { fits = sum_fits c.args.s.now c.args.at c.args.width (omega arith) (omega arith) c.window-x.result c.window-x.ensures c.from.result (rw c.from.ensures c.requires.4) c.requires.5 }
