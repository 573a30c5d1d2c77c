-- Bytes that are no row's but those of some: what is written there leaves every other row. Assumes nothing.
use mathlib.Core.Path.{◌≡◌}
use mathlib.Core.Bool.{Bool, true, false}
use mathlib.Core.List.{List}
use Prim.Native.Nat.{ℕ, ◌<◌}
use native.Mathlib.Omega.{arith}
use lib.Dec.{T, leb}
use lib.Ieee.Bits.{is_true}
use lib.ListN.{length}
use Rattle.wire.specs.Splice.{splice, apart}
use Rattle.wire.proofs.SpliceLaws.{part_apart}
use Rattle.table.specs.Row.{Row, no_row}
use Rattle.table.specs.Rows.{rows, row_count, at_row}
use Rattle.table.specs.Rule.{pick, held}
use Rattle.table.specs.Walk.{every}
use Rattle.table.proofs.Walks.{every-at}
use Rattle.table.proofs.Table.{rows-length}
use Rattle.entry.specs.Entry.{entry_of}

-- the bytes from a place on, n of them, are none of the row's, or it is one of some
unfoldable pub spared : (Row → Bool) → ℕ → ℕ → Row → Bool
spared some at n r = pick (some r) true (apart at n r.place (held r))

module _ (some : Row → Bool) (at n : ℕ) (pass : T (every (spared some at n) rows)) where
  pub spare : (values bytes : List ℕ) → leb at (length values) ≡ true → length bytes ≡ n → (j : ℕ) → j < row_count → some (at_row j) ≡ false → entry_of (at_row j) (splice values at bytes) ≡ entry_of (at_row j) values
  unfolding entry_of spared pick
  spare values bytes room size j h e =
      part_apart values at bytes room (at_row j).place (held (at_row j))
      (rw size (is_true _ (rw e at (every-at (spared some at n) rows no_row pass j (omega (arith, rows-length))))))
