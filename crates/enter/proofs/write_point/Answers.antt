-- `write_point` is `with_point`: six numbers, one after the other.
use Rattle.card.proofs.Fields.{point_written}
use Rattle.enter.proofs.write_point.Goals as goal

pub returns : goal.returns
returns c =
    point_written c.args.values.now _ _ _ _ _ _ c.args.fields c.args.to c.put.ensures c.put-2.ensures c.put-3.ensures c.put-4.ensures c.put-5.ensures c.put-6.ensures
