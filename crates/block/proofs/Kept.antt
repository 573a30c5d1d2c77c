-- What the table's rule says of an NV row, for any rows that pass it. Assumes nothing.
use mathlib.Core.Path.{◌≡◌}
use Prim.Native.Nat.{◌≤◌}
use native.Mathlib.Omega.{arith}
use borrow.Author.Tests.{le-leb, lt-leb}
use Rattle.block.proofs.Entries.{number_or_string, width-bytes}
use Rattle.block.specs.Asked.{Sized, entry_len}
use Rattle.block.specs.Block.{row_width}
use Rattle.limits.proofs.NumberLaws.{len-most, number_long}
use Rattle.limits.specs.Limits.{number_len}
use Rattle.table.proofs.Rules.{RowRule}
use Rattle.table.specs.Row.{Row, BOOL, REAL, CARD}
use Rattle.table.specs.Rule.{pick, held}

-- an NV row
pub record Kept (r : Row) : Type 0 where
  pub rule : RowRule r
  pub sized : Sized r.kind r.len r.place
  pub bool_high : r.kind ≡ BOOL → r.high ≤ 1
  pub held_all : held r ≡ r.len
  pub number_is : r.kind ≤ REAL → r.len ≡ number_len r.kind
  pub len_is : r.len ≡ entry_len r.kind (row_width r)

module _ (r : Row) (rule : RowRule r) (mark : r.nv ≡ 1) where
  long : r.kind ≤ REAL → r.len ≡ number_len r.kind
  long h = number_long r rule h (rule.nv-narrow mark)

  entry_long : r.len ≡ entry_len r.kind (row_width r)
  unfolding entry_len
  entry_long =
      number_or_string r.kind
      (λ h. rw (le-leb r.kind REAL h) (long h))
      (λ h. rw (lt-leb r.kind REAL h, width-bytes r.kind r.len (omega arith)) (omega arith))

  pub kept : Kept r
  unfolding held pick
  kept =
      let k : r.kind ≤ 6 = rule.nv-kind mark in
      let h : held r ≡ r.len = rw (lt-leb CARD r.kind (omega arith)) in
      record {
        rule = rule;
        sized = record {
          most = rule.most;
          some = rule.some;
          short = λ n. omega (arith, long n, len-most r.kind);
          inside = rw h at rule.inside;
        };
        bool_high = rule.bool_high;
        held_all = h;
        number_is = long;
        len_is = entry_long;
      }
