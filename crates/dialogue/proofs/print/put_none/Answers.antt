-- `print::put_none`: four stores are one splice. Assumes nothing.
use mathlib.Core.Path.{refl}
use native.Mathlib.Omega.{arith}
use lib.ListN.{length-set}
use Rattle.dialogue.proofs.TextLaws.{none_put}
use Rattle.dialogue.proofs.print.put_none.Goals as goal

pub bounds-room-1 : goal.bounds-room-1
bounds-room-1 c = simp length-set (omega arith)

pub bounds-room-2 : goal.bounds-room-2
bounds-room-2 c = simp length-set (omega arith)

pub bounds-room-3 : goal.bounds-room-3
bounds-room-3 c = simp length-set (omega arith)

pub returns : goal.returns
returns c = (refl, none_put c.args.room.now c.args.line c.requires.1)
