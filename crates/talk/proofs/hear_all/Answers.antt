-- `hear_all`: nothing is kept at first. Assumes nothing.
use Rattle.std.proofs.Common.{arith}
use Rattle.dialogue.specs.Lines.{nothing_yet}
use Rattle.talk.proofs.hear_all.Goals as goal

pub loop-init : goal.loop-init
unfolding nothing_yet
loop-init g c = rw c.new-pending.ensures (omega arith)
