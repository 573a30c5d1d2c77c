-- `print::put_answer`: two stores, the digits and the newline are one splice. Assumes nothing.
use mathlib.Core.Path.{refl}
use native.Mathlib.Omega.{arith}
use lib.ListN.{length-set}
use Rattle.dialogue.proofs.TextLaws.{answer_put, length_put}
use Rattle.dialogue.proofs.print.put_answer.Goals as goal

pub bounds-room-1 : goal.bounds-room-1
bounds-room-1 c = simp length-set (omega arith)

pub put_hex-requires : goal.put_hex-requires
put_hex-requires c = (omega arith, (omega arith, simp length-set (omega arith)))

pub shape_of-room : goal.shape_of-room
shape_of-room c = simp length-set (length_put c.args.room.now _ c.args.eight.now c.args.line c.requires.1.1 c.requires.1.0 c.put_hex.ensures)

pub returns : goal.returns
returns c = (refl, answer_put c.args.room.now _ c.args.eight.now c.args.line c.requires.1.1 c.requires.1.0 c.put_hex.ensures)
