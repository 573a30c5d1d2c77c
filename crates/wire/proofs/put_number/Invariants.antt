-- `wire::put_number`: what is stored and what is still to be stored are the whole part. Assumes nothing.
use Rattle.std.proofs.Common.{◌≡◌, ◌-◌}
use Rattle.wire.specs.Little.{little}
use Rattle.wire.specs.Splice.{splice}
use Rattle.wire.proofs.put_number.Given as goal

abbrev pub invariant-loop-byte : goal.invariant-loop-byte
invariant-loop-byte l = splice l.byte-items l.byte-index (little (l.len - l.byte-index) l.rest) ≡ little l.len l.v
