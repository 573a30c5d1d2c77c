-- `wire::U8Number::at`: one byte is its number. Assumes nothing.
use Rattle.std.proofs.Common.{sym}
use Rattle.wire.proofs.Stores.{one_byte}
use Rattle.wire.proofs.U8Number.at.Goals as goal

pub returns : goal.returns
returns c = sym (one_byte c.args.s.now c.args.at)
