-- `opening_of` meets its contract, by bits 1 and 0.
use Rattle.sdo.specs.Eight.{opening_by}
use Rattle.sdo.proofs.Facts.{said}
use Rattle.sdo.proofs.decode.opening_of.Goals as goal

pub returns-then-bit_of-2 : goal.returns-then-bit_of-2
unfolding opening_by
returns-then-bit_of-2 c = rw (said c.bit_of.ensures c.if-bit_of.true, said c.bit_of-then-bit_of.ensures c.if-bit_of-2.true, c.from.ensures)

pub returns-then-bit_of : goal.returns-then-bit_of
unfolding opening_by
returns-then-bit_of c = rw (said c.bit_of.ensures c.if-bit_of.true, said c.bit_of-then-bit_of.ensures c.if-bit_of-2.false)

pub returns-then-bit_of-3 : goal.returns-then-bit_of-3
unfolding opening_by
returns-then-bit_of-3 c = rw (said c.bit_of.ensures c.if-bit_of.false, said c.bit_of-2.ensures c.if-bit_of-3.true, c.at.ensures)

pub returns : goal.returns
unfolding opening_by
returns c = rw (said c.bit_of.ensures c.if-bit_of.false, said c.bit_of-2.ensures c.if-bit_of-3.false)
