-- `save_entries` meets its contract. Invariant: what stands before entry i is good and saved. Assumes nothing.
use mathlib.Core.Path.{◌≡◌}
use Prim.Native.Nat.{◌+◌}
use lib.ListN.{take, drop}
use Rattle.bits.specs.Bits.{bits}
use Rattle.block.specs.Asked.{held_front}
use Rattle.block.specs.Block.{saved}
use Rattle.block.specs.Saved.{saved_rows}
use Rattle.wire.specs.Splice.{splice}
use Rattle.store.proofs.save_entries.Given as goal

abbrev pub invariant-loop-i : goal.invariant-loop-i
invariant-loop-i l = record {
  good : held_front l.values saved_rows ≡ l.i + held_front l.values (drop l.i saved_rows);
  stored : bits l.block ≡ splice (bits l.initial.block) 8 (saved l.values (take l.i saved_rows));
}
