-- `window` meets its contract. Invariant: what is gathered is the field of the bytes passed. Assumes nothing.
use Rattle.std.proofs.Common.{◌≡◌, ◌*◌}
use Rattle.bits.specs.Bits.{bits, field}
use Rattle.bits.proofs.window.Given as goal

abbrev pub invariant-loop-byte : goal.invariant-loop-byte
invariant-loop-byte l = l.acc ≡ field (bits l.s) (8 * l.first) (8 * l.byte-index)
