-- `wire::U16Number::put`: two bytes are copied. Assumes nothing.
use Rattle.std.proofs.Common.{◌∙◌}
use Rattle.wire.proofs.Stores.{bytes-2, number-lent}
use Rattle.wire.proofs.U16Number.put.Goals as goal

pub returns : goal.returns
returns c =
    number-lent c.args.s.now c.args.at 2 c.args.self (c.copy_from_slice.ensures.after ∙ c.to_le_bytes.ensures ∙ bytes-2 c.args.self)
