-- `line::reply::going`: the record and the answer. Assumes nothing.
use Rattle.line.proofs.Reading.{both_put}
use Rattle.line.proofs.reply.going.Goals as goal

pub returns : goal.returns
returns c = both_put c.args.at c.args.state.now c.args.room.now c.args.next c.args.eight c.put_record.ensures c.tell.ensures
