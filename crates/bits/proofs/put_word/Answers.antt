-- `put_word`: the turned word puts 32 bits. Assumes nothing.
use Rattle.bits.proofs.Words.{turned_put}
use Rattle.bits.proofs.put_word.Goals as goal

pub returns : goal.returns
returns c =
    turned_put c.args.s.now _ c.args.at c.args.v _ c.requires c.ranges.v.fits c.swap_bytes.ensures c.put.ensures
