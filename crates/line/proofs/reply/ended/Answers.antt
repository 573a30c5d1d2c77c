-- `line::reply::ended`: the zeros and the answer. Assumes nothing.
use Rattle.transfer.specs.Records.{zero_record}
use Rattle.line.proofs.Reading.{both_put}
use Rattle.line.proofs.reply.ended.Goals as goal

pub returns : goal.returns
returns c = both_put c.args.at c.args.state.now c.args.room.now zero_record c.args.eight c.clear_record.ensures c.tell.ensures
