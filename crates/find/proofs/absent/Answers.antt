-- `find::absent`: the number of each absence. Assumes nothing.
use mathlib.Core.Path.{sym, ap}
use mathlib.Core.Bool.{Bool}
use Rattle.table.specs.Find.{absence}
use Rattle.find.specs.Search.{number_of}
use Rattle.find.proofs.absent.Goals as goal

pub returns-then-seen : goal.returns-then-seen
unfolding number_of
returns-then-seen c = sym (ap (λ (b : Bool). number_of (absence b)) c.if-seen.true)

pub returns : goal.returns
unfolding number_of
returns c = sym (ap (λ (b : Bool). number_of (absence b)) c.if-seen.false)
