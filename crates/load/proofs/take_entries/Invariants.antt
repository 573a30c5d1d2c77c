-- `take_entries` meets its contract. Invariant: the first i entries are taken. Assumes nothing.
use mathlib.Core.Path.{◌≡◌}
use lib.ListN.{take}
use Rattle.bits.specs.Bits.{bits}
use Rattle.block.specs.Block.{load_rows}
use Rattle.block.specs.Saved.{saved_rows}
use Rattle.load.proofs.take_entries.Given as goal

abbrev pub invariant-loop-i : goal.invariant-loop-i
invariant-loop-i l = l.values ≡ load_rows (bits l.block) 8 (take l.i saved_rows) l.initial.values
