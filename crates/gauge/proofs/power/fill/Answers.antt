-- `gauge::power::fill`: two writes. Assumes nothing.
use Rattle.gauge.specs.PowerUp.{fresh_values}
use Rattle.gauge.proofs.power.fill.Goals as goal

pub returns : goal.returns
unfolding fresh_values
returns c = rw (c.take_block.ensures.values, c.put_defaults.ensures)
