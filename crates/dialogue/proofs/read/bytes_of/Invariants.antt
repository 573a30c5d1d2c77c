-- `read::bytes_of`: the bytes stored and those still to come are all the pairs. Assumes nothing.
use mathlib.Core.Path.{◌≡◌}
use Prim.Native.Nat.{◌*◌}
use lib.ListN.{length, drop}
use Rattle.dialogue.specs.Text.{pairs}
use Rattle.wire.specs.Splice.{splice}
use Rattle.dialogue.proofs.read.bytes_of.Given as goal

abbrev pub invariant-loop-i : goal.invariant-loop-i
invariant-loop-i l = (length l.eight ≡ 8) × (splice l.eight l.i (pairs (drop (2 * l.i) l.text)) ≡ pairs l.text)
