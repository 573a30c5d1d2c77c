-- `enable_at` is `enable`: a flag as a number. Assumes nothing.
use mathlib.Core.Path.{ap, ◌∙◌}
use Rattle.wire.specs.Flags.{bit}
use Rattle.wire.proofs.FlagLaws.{from-bit}
use Rattle.card.specs.Card.{enable}
use Rattle.card.proofs.enable_at.Goals as goal

pub returns : goal.returns
unfolding enable
returns c = c.from.ensures ∙ from-bit c.is_set.result ∙ ap bit c.is_set.ensures
