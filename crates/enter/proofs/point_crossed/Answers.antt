-- `point_crossed`: four of the six fields.
use Rattle.card.specs.Asked.{fields_crossed}
use Rattle.enter.proofs.point_crossed.Goals as goal

pub returns : goal.returns
unfolding fields_crossed
returns c = c.by_numbers.ensures
