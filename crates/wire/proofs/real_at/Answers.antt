-- `wire::real_at`: the REAL of the word. Assumes nothing.
use mathlib.Core.Path.{ap, ◌∙◌}
use lib.Ieee.{binary32, of_bits}
use Rattle.wire.specs.Real.{real}
use Rattle.wire.proofs.real_at.Goals as goal

pub returns : goal.returns
unfolding real
returns c = c.real_of.ensures ∙ ap (of_bits binary32) c.at.ensures
