-- `is_crossed`: the four numbers of the point. Assumes nothing.
use Rattle.block.specs.Asked.{crossed_by}
use Rattle.block.proofs.is_crossed.Goals as goal

pub returns : goal.returns
unfolding crossed_by
returns c = c.by_numbers.ensures
