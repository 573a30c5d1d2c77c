-- `find::find`: by the area of the index, or by the search. Assumes nothing.
use Rattle.find.proofs.Way.{empty-area}
use Rattle.find.proofs.find.Goals as goal

pub returns-then-is_empty : goal.returns-then-is_empty
returns-then-is_empty c = empty-area c.args.index c.args.sub c.is_empty.ensures c.if-is_empty.true
