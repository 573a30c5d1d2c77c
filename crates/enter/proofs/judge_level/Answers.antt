-- `judge_level` is `level_verdict`: the limits are the ranks of R2.6's.
use mathlib.Core.Path.{◌∙◌}
use Rattle.enter.proofs.Judged.{level_ranked}
use Rattle.enter.proofs.judge_level.Goals as goal

pub returns : goal.returns
returns c = c.judge_number.ensures ∙ level_ranked c.args.v c.ranges.v.fits
