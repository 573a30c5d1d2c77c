-- `line::reply::wrong_toggle`: an abort that only drops a transfer has the bytes of any abort. Assumes nothing.
use Rattle.line.proofs.Reading.{dropped_put}
use Rattle.line.proofs.reply.wrong_toggle.Goals as goal

pub returns : goal.returns
returns c = dropped_put c.args.at c.args.state.now c.args.room.now c.args.k c.abort.ensures c.ended.ensures
