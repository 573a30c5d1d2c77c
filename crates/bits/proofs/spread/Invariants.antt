-- `spread` meets its contract. Invariant: the rest, spread before i, makes what the whole does. Assumes nothing.
use Rattle.std.proofs.Common.{◌≡◌, ◌-◌, ◌*◌}
use Rattle.bits.specs.Bits.{bits, msb}
use Rattle.wire.specs.Splice.{splice}
use Rattle.bits.proofs.spread.Given as goal

abbrev pub invariant-loop-i : goal.invariant-loop-i
invariant-loop-i l = splice (bits l.s) (8 * l.first) (msb (8 * (l.i - l.first)) l.rest) ≡ splice (bits l.initial.s) (8 * l.first) (msb (8 * (l.last - l.first)) l.v)
