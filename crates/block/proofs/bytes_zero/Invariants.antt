-- `bytes_zero` meets its contract. Invariant: the greatest so far is 0 where all bytes so far are. Assumes nothing.
use mathlib.Core.Path.{◌≡◌}
use lib.Dec.{eqb}
use lib.ListN.{take}
use Rattle.block.specs.Block.{all_zero}
use Rattle.block.proofs.bytes_zero.Given as goal

abbrev pub invariant-loop-byte : goal.invariant-loop-byte
invariant-loop-byte l = eqb l.most 0 ≡ all_zero (take l.byte-index l.byte-items)
