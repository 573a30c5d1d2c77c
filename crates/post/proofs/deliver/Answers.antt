-- `post::deliver`: the SDO is served, then its answer sealed. Assumes nothing.
use Rattle.post.proofs.Delivered.{delivered}
use Rattle.post.proofs.deliver.Goals as goal

pub returns : goal.returns
returns c =
    delivered c.args.at c.args.head c.args.s.now c.args.values.now c.args.block.now c.args.state.now c.args.answer.now c.requires.1 c.speak-len.auto.room c.speak-len.ensures.0 c.speak-len.ensures.1 c.speak-len.ensures.2 c.seal.ensures
