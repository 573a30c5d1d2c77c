-- `sample::keep`: the mask is the definition. Assumes nothing.
use borrow.Author.Rules.{rules}
use Rattle.sample.specs.Faults.{kept_faults}
use Rattle.sample.proofs.keep.Goals as goal

pub returns : goal.returns
unfolding kept_faults
returns c = search rules
