-- `byte_at` meets its contract: inside the bytes taken, and past them.
use mathlib.Core.Path.{sym}
use native.Mathlib.Omega.{arith}
use lib.ListN.{take, length-take, get_or-eq_default}
use lib.Seq.{get_or-take}
use Rattle.sdo.proofs.answer.byte_at.Goals as goal

pub returns-then-i-len : goal.returns-then-i-len
returns-then-i-len c = sym (get_or-take c.args.len c.args.held.now c.args.i 0 (omega arith))

pub returns-else-i-len : goal.returns-else-i-len
returns-else-i-len c = sym (get_or-eq_default (take c.args.len c.args.held.now) 0 {n = c.args.i} (simp length-take (omega arith)))
