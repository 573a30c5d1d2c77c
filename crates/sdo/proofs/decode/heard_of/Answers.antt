-- `heard_of` meets its contract, by the top three bits.
use lib.ListN.{get_or}
use Prim.Native.Nat.{◌/◌}
use Rattle.sdo.proofs.Facts.{above_four}
use Rattle.sdo.specs.Eight.{choice, heard_of}
use native.Mathlib.Omega.{arith}
use mathlib.Core.Path.{sym}
use Rattle.sdo.proofs.decode.heard_of.Goals as goal

pub returns-in-0 : goal.returns-in-0
unfolding heard_of choice
returns-in-0 c = rw (c.in-0.is, c.bit_of.ensures, c.from.ensures, c.bit_of-in-0.ensures)

pub returns-in-1 : goal.returns-in-1
unfolding heard_of choice
returns-in-1 c = rw (c.in-1.is, c.key_of.ensures, c.opening_of.ensures)

pub returns-in-2 : goal.returns-in-2
unfolding heard_of choice
returns-in-2 c = rw (c.in-2.is, c.key_of-in-2.ensures)

pub returns-in-3 : goal.returns-in-3
unfolding heard_of choice
returns-in-3 c = rw (c.in-3.is, c.bit_of-in-3.ensures)

pub returns-in-4 : goal.returns-in-4
unfolding heard_of choice
returns-in-4 c = rw c.in-4.is

pub returns-in-5-to-7 : goal.returns-in-5-to-7
unfolding heard_of
returns-in-5-to-7 c = sym (above_four (get_or c.args.m.now 0 0 / 32) _ _ _ _ _ _ (omega arith))

pub returns-in_default : goal.returns-in_default
unfolding heard_of
returns-in_default c = sym (above_four (get_or c.args.m.now 0 0 / 32) _ _ _ _ _ _ (omega arith))
