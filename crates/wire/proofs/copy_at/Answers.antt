-- `wire::copy_at`: what is copied and what is still to be copied are the whole splice. Assumes nothing.
use Rattle.std.proofs.Common.{◌+◌, arith}
use Rattle.std.proofs.lemmas.List.{drop_all}
use Rattle.wire.proofs.Turns.{store-turn, store-done, rest-turn}
use Rattle.wire.proofs.copy_at.Goals as goal

pub loop-i-preserved : goal.loop-i-preserved
loop-i-preserved c =
    store-turn c.loop-i.dst _ (c.args.at + c.loop-i.i) _ _ _ (omega arith) (omega arith) (rw (rest-turn c.args.bytes.now c.loop-i.i (omega arith)) at c.loop-i.invariant)

pub returns : goal.returns
returns c =
    store-done c.loop-i.dst _ (c.args.at + c.loop-i.i) _ (drop_all c.loop-i.i c.args.bytes.now (omega arith)) c.loop-i.invariant
