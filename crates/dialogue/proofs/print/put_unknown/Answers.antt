-- `print::put_unknown`: two stores are one splice. Assumes nothing.
use mathlib.Core.Path.{refl}
use native.Mathlib.Omega.{arith}
use lib.ListN.{length-set}
use Rattle.dialogue.proofs.TextLaws.{unknown_put}
use Rattle.dialogue.proofs.print.put_unknown.Goals as goal

pub bounds-room-1 : goal.bounds-room-1
bounds-room-1 c = simp length-set (omega arith)

pub returns : goal.returns
returns c = (refl, unknown_put c.args.room.now c.requires)
