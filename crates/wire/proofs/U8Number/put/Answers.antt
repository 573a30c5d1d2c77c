-- `wire::U8Number::put`: one store is a splice of one byte. Assumes nothing.
use borrow.Author.Rules.{rules}
use Rattle.wire.proofs.Stores.{one_store}
use Rattle.wire.proofs.U8Number.put.Goals as goal

pub returns : goal.returns
returns c = one_store c.args.s.now c.args.at c.args.self c.requires (search rules)
