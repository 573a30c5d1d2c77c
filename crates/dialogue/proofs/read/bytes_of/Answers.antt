-- `read::bytes_of`: the bytes stored and those still to come are all the pairs. Assumes nothing.
use mathlib.Core.Path.{refl, ap}
use Prim.Native.Nat.{◌*◌}
use native.Mathlib.Omega.{arith}
use lib.ListN.{length-set, drop_of_length-le}
use Rattle.dialogue.proofs.TextLaws.{byte_turn, length_pairs}
use Rattle.wire.proofs.Turns.{store-done}
use Rattle.dialogue.specs.Text.{pairs}
use Rattle.wire.proofs.SpliceLaws.{splice-whole}
use Rattle.dialogue.proofs.read.bytes_of.Goals as goal

pub loop-i-init : goal.loop-i-init
loop-i-init c = (refl, splice-whole _ (pairs c.args.text.now) (length_pairs 8 c.args.text.now c.requires))

pub loop-i-preserved : goal.loop-i-preserved
loop-i-preserved c =
    (simp length-set c.loop-i.invariant.0, byte_turn c.loop-i.eight _ c.args.text.now c.loop-i.i c.value_of-high.result c.value_of-low.result (omega arith) (omega arith) c.value_of-high.ensures.0 c.value_of-low.ensures.0 c.loop-i.invariant.1)

pub returns : goal.returns
unfolding pairs
returns c = store-done c.loop-i.eight _ c.loop-i.i _ (ap pairs (drop_of_length-le c.args.text.now {i = 2 * c.loop-i.i} (omega arith))) c.loop-i.invariant.1
