-- `put_across` meets its contract. Invariant: the bytes that are left, written from here, give the whole. Assumes nothing.
use Rattle.std.proofs.Common.{◌≡◌, ◌+◌, ◌*◌, drop}
use Rattle.bits.specs.Bits.{bits}
use Rattle.wire.specs.Splice.{splice}
use Rattle.bits.proofs.put_across.Given as goal

abbrev pub invariant-loop-i : goal.invariant-loop-i
invariant-loop-i l = splice (bits l.s) (l.at + 8 * l.i) (bits (drop l.i l.bytes)) ≡ splice (bits l.initial.s) l.at (bits l.bytes)
