-- The table's rule at each row, for ANY table that passes the one test. Assumes nothing.
use mathlib.Core.Path.{◌≡◌, refl, ap, subst}
use mathlib.Core.Bool.{Bool, true, false}
use mathlib.Core.List.{List}
use mathlib.Core.Logic.{◌⊎◌, inl, inr}
use Prim.Native.Nat.{ℕ, ◌+◌, ◌*◌, ◌%◌, ◌^◌, ◌≤◌, ◌<◌}
use native.Mathlib.Omega.{arith}
use lib.Dec.{T, leb, ltb, eqb, leb→le, ltb→lt, eqb→eq}
use lib.ListN.{length, get_or}
use borrow.Author.Tests.{eq-eqb, le-leb}
use Rattle.table.specs.Row.{Row, no_row, BOOL, ULINT, REAL, STRING}
use Rattle.table.specs.Walk.{every, chain}
use Rattle.table.specs.Rule.{pick, key, held, block_sum, is_number, rank, finite_pattern, width_of, row_tests, row_ok, next_ok, table_ok}
use Rattle.table.specs.Find.{Found, At, NoIndex, NoSub, find_from}
use Rattle.table.proofs.Searched.{Has, at_has, no_index, no_sub}
use Rattle.table.proofs.Walks.{nth, both_left, both_right, every-at, chain_far, by_order}

-- the rule of one row
pub record RowRule (r : Row) : Type 0 where
  pub some : 1 ≤ r.len
  pub most : r.len ≤ 64
  pub inside : r.place + held r ≤ 1024
  pub index_word : r.index < 65536
  pub sub_byte : r.sub < 256
  pub kind_known : r.kind ≤ 8
  pub access-some : 1 ≤ r.access
  pub access-most : r.access ≤ 3
  pub nv-bit : r.nv ≤ 1
  pub width : r.len ≡ width_of r
  pub nv-kind : r.nv ≡ 1 → r.kind ≤ 6
  pub nv-narrow : r.nv ≡ 1 → r.kind ≡ ULINT → ⊥
  pub finite-low : r.kind ≡ REAL → r.low % 2147483648 < 2139095040
  pub finite-high : r.kind ≡ REAL → r.high % 2147483648 < 2139095040
  pub ordered : rank r.kind r.low ≤ rank r.kind r.high
  pub def-low : rank r.kind r.low ≤ rank r.kind r.def
  pub def-high : rank r.kind r.def ≤ rank r.kind r.high
  pub low_fits : r.kind ≤ REAL → r.low < 2 ^ (8 * r.len)
  pub high_fits : r.kind ≤ REAL → r.high < 2 ^ (8 * r.len)
  pub def-fits : r.kind ≤ REAL → r.def < 2 ^ (8 * r.len)
  pub bool_high : r.kind ≡ BOOL → r.high ≤ 1
  pub ulint_low : r.kind ≡ ULINT → r.low ≡ 0
  pub ulint_high : r.kind ≡ ULINT → r.high ≡ 0xFFFFFFFFFFFFFFFF
  pub no_low : STRING ≤ r.kind → r.low ≡ 0
  pub no_def : STRING ≤ r.kind → r.def ≡ 0

-- a test that is made only where another passes
made : (a b : Bool) → T (pick a b true) → a ≡ true → T b
unfolding pick
made a b t e = rw e at t

not-both : (b : Bool) → T (pick b false true) → b ≡ true → ⊥
unfolding pick
not-both b t e = rw e at t

pub row_ok→rule : (r : Row) → T (row_ok r) → RowRule r
unfolding row_ok row_tests is_number finite_pattern
row_ok→rule r t =
    let test : (k : ℕ) → T (get_or (row_tests r) k true) = λ k. nth (row_tests r) k t in
    record {
      some = leb→le _ _ (test 0);
      most = leb→le _ _ (test 1);
      inside = leb→le _ _ (test 2);
      index_word = ltb→lt _ _ (test 3);
      sub_byte = ltb→lt _ _ (test 4);
      kind_known = leb→le _ _ (test 5);
      access-some = leb→le _ _ (test 6);
      access-most = leb→le _ _ (test 7);
      nv-bit = leb→le _ _ (test 8);
      width = eqb→eq _ _ (test 9);
      nv-kind = λ e. leb→le _ _ (both_left (leb r.kind 6) (pick (eqb r.kind ULINT) false true) (made (eqb r.nv 1) _ (test 10) (eq-eqb _ _ e)));
      nv-narrow = λ e u. not-both (eqb r.kind ULINT) (both_right (leb r.kind 6) _ (made (eqb r.nv 1) _ (test 10) (eq-eqb _ _ e))) (eq-eqb _ _ u);
      finite-low = λ e. ltb→lt _ _ (both_left (finite_pattern r.low) (finite_pattern r.high) (made (eqb r.kind REAL) _ (test 11) (eq-eqb _ _ e)));
      finite-high = λ e. ltb→lt _ _ (both_right (finite_pattern r.low) (finite_pattern r.high) (made (eqb r.kind REAL) _ (test 11) (eq-eqb _ _ e)));
      ordered = leb→le _ _ (test 12);
      def-low = leb→le _ _ (test 13);
      def-high = leb→le _ _ (test 14);
      low_fits = λ n. ltb→lt _ _ (made (leb r.kind REAL) _ (test 15) (le-leb _ _ n));
      high_fits = λ n. ltb→lt _ _ (made (leb r.kind REAL) _ (test 16) (le-leb _ _ n));
      def-fits = λ n. ltb→lt _ _ (made (leb r.kind REAL) _ (test 17) (le-leb _ _ n));
      bool_high = λ e. leb→le _ _ (made (eqb r.kind BOOL) _ (test 18) (eq-eqb _ _ e));
      ulint_low = λ e. eqb→eq _ _ (both_left (eqb r.low 0) _ (made (eqb r.kind ULINT) _ (test 19) (eq-eqb _ _ e)));
      ulint_high = λ e. eqb→eq _ _ (both_right (eqb r.low 0) _ (made (eqb r.kind ULINT) _ (test 19) (eq-eqb _ _ e)));
      no_low = λ s. eqb→eq _ _ (made (leb STRING r.kind) _ (test 20) (le-leb _ _ s));
      no_def = λ s. eqb→eq _ _ (made (leb STRING r.kind) _ (test 22) (le-leb _ _ s));
    }

-- the keys rise, and an earlier row's place ends where a later one's begins, or before
pub record Before (a b : Row) : Type 0 where
  pub rise : key a < key b
  pub apart : a.place + held a ≤ b.place

next→before : (a b : Row) → T (next_ok a b) → Before a b
unfolding next_ok
next→before a b t =
    record { rise = ltb→lt _ _ (both_left (ltb (key a) (key b)) _ t); apart = leb→le _ _ (both_right (ltb (key a) (key b)) _ t) }

before_trans : (a b c : Row) → Before a b → Before b c → Before a c
before_trans a b c p q = record { rise = omega arith; apart = omega arith }

module _ (xs : List Row) (pass : T (table_ok xs)) where
  pub rule_at : (k : ℕ) → k < length xs → RowRule (get_or xs k no_row)
  unfolding table_ok
  rule_at k h = row_ok→rule (get_or xs k no_row) (every-at row_ok xs no_row (both_left (every row_ok xs) _ pass) k h)

  pub before_at : (j k : ℕ) → j < k → k < length xs → Before (get_or xs j no_row) (get_or xs k no_row)
  unfolding table_ok
  before_at j k h l =
      chain_far next_ok Before next→before before_trans no_row xs (both_left (chain next_ok xs) _ (both_right (every row_ok xs) _ pass)) j k h l

  -- what the NV entries take in the saved block
  pub block-fits : 8 + block_sum xs ≤ 4096
  unfolding table_ok
  block-fits = leb→le _ _ (both_right (chain next_ok xs) _ (both_right (every row_ok xs) _ pass))

  -- two rows with one key are one row
  pub one_row : (j k : ℕ) → j < length xs → k < length xs → key (get_or xs j no_row) ≡ key (get_or xs k no_row) → j ≡ k
  one_row j k hj hk e =
      by_order j k (λ l. absurd (let b = before_at j k l hk in omega arith)) (λ q. q) (λ l. absurd (let b = before_at k j l hj in omega arith))

  -- each row is found by its key: at most one row has it
  pub found_once : (i s m : ℕ) → Has xs i s m → find_from xs 0 false i s ≡ At m
  unfolding key
  found_once i s m k = go (find_from xs 0 false i s) refl
    where
      go : (f : Found) → find_from xs 0 false i s ≡ f → f ≡ At m
      go (At q) e =
          let a = at_has xs 0 false i s q e in
          let z : a.0 ≡ q = omega arith in
          let h : Has xs i s q = subst (Has xs i s) z a.2 in
          ap At (one_row q m h.there k.there (omega arith))
      go NoIndex e = absurd (no_index xs 0 false i s e m k.there k.index_is)
      go NoSub e = absurd (no_sub xs 0 false i s e m k.there k.index_is k.sub_is)

  -- two different rows' bytes are disjoint
  pub apart-at : (j k : ℕ) → j < length xs → k < length xs → (j ≡ k → ⊥)
      → ((get_or xs j no_row).place + held (get_or xs j no_row) ≤ (get_or xs k no_row).place) ⊎ ((get_or xs k no_row).place + held (get_or xs k no_row) ≤ (get_or xs j no_row).place)
  apart-at j k hj hk d = by_order j k (λ l. inl (before_at j k l hk).apart) (λ e. absurd (d e)) (λ l. inr (before_at k j l hj).apart)
