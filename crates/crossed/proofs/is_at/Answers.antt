-- `is_at`: its four numbers.
use mathlib.Core.Path.{◌∙◌}
use Rattle.limits.specs.Limits.{number_len}
use Rattle.crossed.proofs.CrossedLaws.{numbers_are}
use Rattle.crossed.proofs.is_at.Goals as goal

pub returns : goal.returns
unfolding number_len
returns c =
    c.by_numbers.ensures ∙ numbers_are c.args.values.now c.args.at c.number_by.ensures c.number_by-2.ensures c.number_by-3.ensures c.number_by-4.ensures
