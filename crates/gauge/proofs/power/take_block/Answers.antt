-- `gauge::power::take_block`: the load, then its masks. Assumes nothing.
use mathlib.Core.Path.{ap₂, ◌∙◌}
use Rattle.gauge.specs.Masks.{heeding}
use Rattle.gauge.specs.PowerUp.{block_taken}
use Rattle.gauge.proofs.power.take_block.Goals as goal

pub returns : goal.returns
unfolding block_taken
returns c =
    record {
      taken = c.load-taken.ensures.0;
      values = c.heed.ensures ∙ ap₂ heeding c.load-taken.ensures.0 c.load-taken.ensures.1;
    }
