-- `serve::serve_byte`: a byte that ends the line, its reply printed or not, and any other. Assumes nothing.
use Rattle.talk.proofs.TurnLaws.{byte_ends, byte_goes}
use Rattle.talk.proofs.serve.serve_byte.Goals as goal

pub returns-in_err-serve_line : goal.returns-in_err-serve_line
returns-in_err-serve_line g c = byte_ends c.args.pending.now c.push.new.self c.args.byte c.args.memory.now c.push.ensures _ c.if-pending.true c.serve_line.ensures

pub returns-in_ok-serve_line : goal.returns-in_ok-serve_line
returns-in_ok-serve_line g c = byte_ends c.args.pending.now c.push.new.self c.args.byte c.args.memory.now c.push.ensures _ c.if-pending.true c.serve_line.ensures

pub returns-else-pending : goal.returns-else-pending
returns-else-pending g c = byte_goes c.args.pending.now c.push.new.self c.args.byte c.args.memory.now c.push.ensures c.if-pending.false
