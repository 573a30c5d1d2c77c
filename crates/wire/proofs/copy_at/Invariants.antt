-- `wire::copy_at`: what is copied and what is still to be copied are the whole splice. Assumes nothing.
use Rattle.std.proofs.Common.{◌≡◌, ◌+◌, drop}
use Rattle.wire.specs.Splice.{splice}
use Rattle.wire.proofs.copy_at.Given as goal

abbrev pub invariant-loop-i : goal.invariant-loop-i
invariant-loop-i l = splice l.dst (l.at + l.i) (drop l.i l.bytes) ≡ splice l.initial.dst l.at l.bytes
