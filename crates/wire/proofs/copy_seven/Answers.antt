-- `wire::copy_seven`: two words that share a byte. Assumes nothing.
use Rattle.wire.proofs.Overlaps.{seven_copied}
use Rattle.wire.proofs.copy_seven.Goals as goal

pub returns : goal.returns
returns c =
    seven_copied c.args.dst.now c.args.src.now c.args.at c.args.from (λ k. (c.type_inv.src k).fits) c.requires.0 c.requires.1 c.at.ensures c.put.ensures c.at-2.ensures c.put-2.ensures
