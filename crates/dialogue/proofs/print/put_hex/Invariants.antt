-- `print::put_hex`: the digits stored and those still to come are the whole splice. Assumes nothing.
use mathlib.Core.Path.{◌≡◌}
use Prim.Native.Nat.{◌+◌, ◌*◌}
use lib.ListN.{length, drop}
use Rattle.dialogue.specs.Text.{hex_text}
use Rattle.wire.specs.Splice.{splice}
use Rattle.dialogue.proofs.print.put_hex.Given as goal

abbrev pub invariant-loop-i : goal.invariant-loop-i
invariant-loop-i l = (length l.room ≡ length l.initial.room) × (splice l.room (l.at + 2 * l.i) (hex_text (drop l.i l.bytes)) ≡ splice l.initial.room l.at (hex_text l.bytes))
