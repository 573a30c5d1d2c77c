-- `good_numbers` meets its contract. Invariant: what stands before entry i is good, and its numbers are known. Assumes nothing.
use mathlib.Core.Path.{◌≡◌}
use Prim.Native.Nat.{◌+◌}
use lib.ListN.{length, take, drop}
use Rattle.bits.specs.Bits.{bits}
use Rattle.block.specs.Asked.{saved_front, Front}
use Rattle.block.specs.Block.{widths}
use Rattle.block.specs.Saved.{saved_rows}
use Rattle.table.specs.Rows.{nv_count}
use Rattle.block.proofs.good_numbers.Given as goal

abbrev pub invariant-loop-i : goal.invariant-loop-i
invariant-loop-i l = record {
  long : length l.numbers ≡ nv_count;
  good : saved_front (bits l.block) 8 saved_rows ≡ l.i + saved_front (bits l.block) (8 + widths (take l.i saved_rows)) (drop l.i saved_rows);
  known : Front (bits l.block) l.numbers l.i;
}
