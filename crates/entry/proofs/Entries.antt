-- THE ENTRIES OF A TABLE: what storing one row, and all defaults, do to every row's bytes; for any table that passes the rule, and for the object table.
use mathlib.Core.Path.{◌≡◌, ◌∙◌}
use mathlib.Core.List.{List}
use Prim.Native.Nat.{ℕ, ◌+◌, ◌<◌, ◌≤◌}
use native.Mathlib.Omega.{arith}
use lib.Dec.{T}
use lib.ListN.{length, get_or, replicate, length-replicate}
use Rattle.table.specs.Row.{Row, no_row, STRING}
use Rattle.table.specs.Rows.{rows, row_count, at_row}
use Rattle.table.specs.Rule.{held, table_ok}
use Rattle.table.proofs.Rules.{rule_at, before_at, apart-at}
use Rattle.table.proofs.Table.{rows_pass, rows-length, row_rule}
use Rattle.entry.specs.Entry.{entry_of, with_entry, default_of, defaults}
use Rattle.entry.proofs.EntryLaws.{zero_at, default_zero, BesideAll, Inside, Rising, length-stored, stored-read, stored_other, length-defaults, defaults-read, defaults_byte}

module _ (xs : List Row) (pass : T (table_ok xs)) where
  inside : Inside 1024 xs
  inside k h = (rule_at xs pass k h).inside

  rising : Rising xs
  rising j k l h = (before_at xs pass j k l h).apart

  -- storing one row: the values keep their length, the row reads as what was stored, every other row as before
  module _ (k : ℕ) (there : k < length xs) (values bytes : List ℕ) (long : length values ≡ 1024) (fit : length bytes ≡ held (get_or xs k no_row)) where
    room : (get_or xs k no_row).place + held (get_or xs k no_row) ≤ length values
    room = rw long (inside k there)

    pub store_length : length (with_entry (get_or xs k no_row) values bytes) ≡ 1024
    store_length = length-stored (get_or xs k no_row) values bytes room fit ∙ long

    pub store-read : entry_of (get_or xs k no_row) (with_entry (get_or xs k no_row) values bytes) ≡ bytes
    store-read = stored-read (get_or xs k no_row) values bytes room fit

    pub store_other : (j : ℕ) → j < length xs → (k ≡ j → ⊥) → entry_of (get_or xs j no_row) (with_entry (get_or xs k no_row) values bytes) ≡ entry_of (get_or xs j no_row) values
    store_other j h d = stored_other (get_or xs k no_row) values bytes room fit (get_or xs j no_row) (apart-at xs pass k j there h d)

  -- all defaults: the values keep their length, each row reads as its default, and a byte of no row stays
  module _ (values : List ℕ) (long : length values ≡ 1024) where
    pub all-length : length (defaults xs values) ≡ 1024
    all-length = length-defaults 1024 xs inside values long

    pub all_read : (k : ℕ) → k < length xs → entry_of (get_or xs k no_row) (defaults xs values) ≡ default_of (get_or xs k no_row)
    all_read k h = defaults-read 1024 xs inside rising values long k h

    pub all_byte : (i : ℕ) → BesideAll xs i 1 → get_or (defaults xs values) i 0 ≡ get_or values i 0
    all_byte i b = defaults_byte 1024 xs inside values long i b

  -- on zeros: bytes of no entry are zero (R9.2)
  pub zero_beside : (i : ℕ) → BesideAll xs i 1 → get_or (defaults xs (replicate 1024 0)) i 0 ≡ 0
  zero_beside i b = all_byte (replicate 1024 0) (length-replicate {A = ℕ} 1024 0) i b ∙ zero_at 1024 i

-- ---- the object table

inside-rows : {k : ℕ} → k < row_count → k < length rows
inside-rows h = omega (arith, rows-length)

module _ (k : ℕ) (there : k < row_count) (values bytes : List ℕ) (long : length values ≡ 1024) (fit : length bytes ≡ held (at_row k)) where
  pub row_store_length : length (with_entry (at_row k) values bytes) ≡ 1024
  row_store_length = store_length rows rows_pass k (inside-rows there) values bytes long fit

  pub row_store_read : entry_of (at_row k) (with_entry (at_row k) values bytes) ≡ bytes
  row_store_read = store-read rows rows_pass k (inside-rows there) values bytes long fit

  pub row_store_other : (j : ℕ) → j < row_count → (k ≡ j → ⊥) → entry_of (at_row j) (with_entry (at_row k) values bytes) ≡ entry_of (at_row j) values
  row_store_other j h d = store_other rows rows_pass k (inside-rows there) values bytes long fit j (inside-rows h) d

module _ (values : List ℕ) (long : length values ≡ 1024) where
  pub defaults-length : length (defaults rows values) ≡ 1024
  defaults-length = all-length rows rows_pass values long

  pub default_read : (k : ℕ) → k < row_count → entry_of (at_row k) (defaults rows values) ≡ default_of (at_row k)
  default_read k h = all_read rows rows_pass values long k (inside-rows h)

  -- a string reads as zeros
  pub string_read : (k : ℕ) → k < row_count → STRING ≤ (at_row k).kind → entry_of (at_row k) (defaults rows values) ≡ replicate (held (at_row k)) 0
  string_read k h s = default_read k h ∙ default_zero (at_row k) ((row_rule k h).no_def s)
