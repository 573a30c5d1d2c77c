-- `get_across` meets its contract. Invariant: the bytes that are left, read from here, give the whole part. Assumes nothing.
use Rattle.std.proofs.Common.{◌≡◌, ◌+◌, ◌-◌, ◌*◌, drop}
use Rattle.bits.specs.Bits.{bits, packed}
use Rattle.wire.specs.Splice.{splice}
use Rattle.bits.proofs.get_across.Given as goal

abbrev pub invariant-loop-i : goal.invariant-loop-i
invariant-loop-i l = splice l.byte-items l.i (packed (l.n - l.i) (drop (l.at + 8 * l.i) (bits l.s))) ≡ packed l.n (drop l.at (bits l.s))
