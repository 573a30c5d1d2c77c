-- `no_transfer` meets its contract: the definition computes to the eight bytes.
use mathlib.Core.Path.{refl}
use Rattle.sdo.specs.Eight.{answer_of}
use Rattle.sdo.proofs.answer.no_transfer.Goals as goal

pub returns : goal.returns
unfolding answer_of
returns c = refl
