-- `gauge::places::is_among`: two comparisons. Assumes nothing.
use borrow.Author.Rules.{rules}
use Rattle.gauge.specs.Among.{among}
use Rattle.gauge.proofs.places.is_among.Goals as goal

pub returns : goal.returns
unfolding among
returns c = search rules
