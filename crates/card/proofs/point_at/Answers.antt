-- `point_at` is `point_fields`: the six numbers that were read.
use Rattle.card.proofs.Fields.{fields_are}
use Rattle.card.proofs.point_at.Goals as goal

pub returns : goal.returns
returns c =
    fields_are c.args.values.now c.args.from c.enable_at.ensures c.enable_at-2.ensures c.at.ensures c.at-2.ensures c.at-3.ensures c.at-4.ensures
