-- No more than twenty bytes of a line are kept.
use Rattle.std.proofs.Common.{◌≤◌}
use Rattle.talk.proofs.hear_all.Given as goal

abbrev pub invariant-loop : goal.invariant-loop
invariant-loop g l = l.pending.count ≤ 20
