-- `abort` meets its contract: the definition computes to the eight bytes.
use Rattle.sdo.specs.Eight.{answer_of}
use borrow.Author.Rules.{rules}
use Rattle.sdo.proofs.answer.abort.Goals as goal

pub returns : goal.returns
unfolding answer_of
returns c = search rules
