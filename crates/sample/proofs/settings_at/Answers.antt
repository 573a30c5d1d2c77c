-- `sample::settings_at`: field by field. Assumes nothing.
use Rattle.sample.specs.Sample.{settings}
use Rattle.sample.proofs.settings_at.Goals as goal

pub returns : goal.returns
unfolding settings
returns c = cc
