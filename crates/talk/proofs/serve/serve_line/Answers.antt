-- `serve::serve_line`: what the line says, and its turn. Assumes nothing.
use Rattle.std.proofs.Common.{arith}
use Rattle.talk.proofs.TurnLaws.{line_taken, pending-line}
use Rattle.talk.proofs.serve.serve_line.Goals as goal

pub reply-count-requires : goal.reply-count-requires
reply-count-requires g c = (rw c.said.ensures (pending-line c.args.pending.now), omega arith)

pub returns : goal.returns
returns g c = line_taken c.args.pending.now c.said.result c.args.memory.now _ _ c.said.ensures c.reply-count.ensures.1
