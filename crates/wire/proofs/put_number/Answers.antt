-- `wire::put_number`: what is stored and what is still to be stored are the whole part. Assumes nothing.
use Rattle.std.proofs.Common.{arith}
use Rattle.wire.proofs.Turns.{store-turn, store-done, part-all, little-turn, little-done}
use Rattle.wire.proofs.Stores.{number-lent}
use Rattle.wire.proofs.put_number.Goals as goal

pub loop-byte-init : goal.loop-byte-init
loop-byte-init c = part-all c.args.s.now c.args.at c.args.len c.args.v c.requires

pub loop-byte-preserved : goal.loop-byte-preserved
loop-byte-preserved c =
    store-turn c.loop-byte.byte-items _ c.loop-byte.byte-index _ _ _ (omega arith) (omega arith) (rw (little-turn c.args.len c.loop-byte.byte-index c.loop-byte.rest (omega arith)) at c.loop-byte.invariant)

pub returns : goal.returns
returns c =
    number-lent c.args.s.now c.args.at c.args.len c.args.v (store-done c.loop-byte.byte-items _ c.loop-byte.byte-index _ (little-done c.args.len c.loop-byte.byte-index c.loop-byte.rest (omega arith)) c.loop-byte.invariant)
