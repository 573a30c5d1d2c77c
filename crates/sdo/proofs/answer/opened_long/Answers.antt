-- `opened_long` meets its contract: a length below 256 fills one of four bytes.
use native.Mathlib.Omega.{arith}
use borrow.Author.Rules.{rules}
use Rattle.sdo.proofs.Facts.{little_small}
use Rattle.sdo.specs.Eight.{answer_of}
use Rattle.sdo.proofs.answer.opened_long.Goals as goal

pub returns : goal.returns
unfolding answer_of
returns c = rw (little_small c.args.len (omega arith)) (search rules)
