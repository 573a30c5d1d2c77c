-- `wire::U32Number::put`: four bytes are copied. Assumes nothing.
use Rattle.std.proofs.Common.{◌∙◌}
use Rattle.wire.proofs.Stores.{bytes-4, number-lent}
use Rattle.wire.proofs.U32Number.put.Goals as goal

pub returns : goal.returns
returns c =
    number-lent c.args.s.now c.args.at 4 c.args.self (c.copy_from_slice.ensures.after ∙ c.to_le_bytes.ensures ∙ bytes-4 c.args.self)
