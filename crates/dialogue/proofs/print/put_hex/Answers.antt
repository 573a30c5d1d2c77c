-- `print::put_hex`: the digits stored and those still to come are the whole splice. Assumes nothing.
use mathlib.Core.Path.{ap}
use Prim.Native.Nat.{◌+◌, ◌*◌}
use native.Mathlib.Omega.{arith}
use lib.ListN.{length-set, drop_of_length-le}
use Rattle.dialogue.proofs.TextLaws.{hex_turn, pair_turn}
use Rattle.dialogue.specs.Text.{hex_text}
use Rattle.wire.proofs.Turns.{store-done}
use Rattle.dialogue.proofs.print.put_hex.Goals as goal

pub loop-i-preserved : goal.loop-i-preserved
loop-i-preserved c =
    (simp length-set c.loop-i.invariant.0, rw (c.capital_of.ensures, c.capital_of-in-loop-i.ensures) (pair_turn c.loop-i.room _ c.args.at c.loop-i.i _ _ _ (omega arith) (rw (hex_turn c.args.bytes.now c.loop-i.i (omega arith)) at c.loop-i.invariant.1)))

pub returns : goal.returns
unfolding hex_text
returns c = store-done c.loop-i.room _ (c.args.at + 2 * c.loop-i.i) _ (ap hex_text (drop_of_length-le c.args.bytes.now {i = c.loop-i.i} (omega arith))) c.loop-i.invariant.1
