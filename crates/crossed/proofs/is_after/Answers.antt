-- `is_after`: its four numbers, each as it would be.
use mathlib.Core.Path.{◌∙◌}
use Rattle.wire.specs.Splice.{splice}
use Rattle.limits.specs.Limits.{number_len}
use Rattle.crossed.proofs.CrossedLaws.{numbers_are}
use Rattle.crossed.proofs.is_after.Goals as goal

pub returns : goal.returns
unfolding number_len
returns c =
    let after = splice c.args.values.now c.args.place c.args.bytes.now in
    c.by_numbers.ensures ∙ numbers_are after c.args.at c.number_after.ensures c.number_after-2.ensures c.number_after-3.ensures c.number_after-4.ensures
