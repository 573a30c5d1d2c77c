-- The search by halves: what each look leaves, how many rows are looked at, and that they tell what the whole table tells. Assumes nothing.
use mathlib.Core.Path.{◌≡◌, refl, sym, ap, ◌∙◌}
use mathlib.Core.Bool.{Bool, true, false, cond, ◌&&◌, false≢true}
use mathlib.Core.List.{List, [], ◌∷◌}
use Prim.Native.Nat.{ℕ, zero, suc, ◌+◌, ◌-◌, ◌/◌, ◌^◌, ◌<◌, ◌≤◌}
use native.Mathlib.Nat.{zero-add, pow-suc}
use native.Mathlib.Omega.{arith}
use lib.Dec.{T, eqb, ltb}
use lib.ListN.{length, get_or}
use borrow.Author.Tests.{eq-eqb, ne_eqb, lt-ltb, le-ltb, eqb-true, ltb-true}
use Rattle.table.specs.Row.{Row, row, no_row, BOOL, RO}
use Rattle.table.specs.Rows.{rows, row_count}
use Rattle.table.specs.Rule.{key, table_ok}
use Rattle.table.specs.Find.{At, NoSub, find_from, find_row}
use Rattle.table.specs.Halve.{middle, has_key, stands_before, some_looks, looks, told}
use Rattle.table.proofs.Walks.{by_order}
use Rattle.table.proofs.Rules.{rule_at, before_at, found_once}
use Rattle.table.proofs.Searched.{absent_index, absent_sub}
use Rattle.table.proofs.Table.{rows_pass, rows-length}

-- ---- one row and a key

module _ (r : Row) (i s : ℕ) where
  pub before_by_sub : r.index ≡ i → r.sub < s → stands_before r i s ≡ true
  unfolding stands_before
  before_by_sub e l = simp (eq-eqb r.index i e, lt-ltb r.sub s l)

  pub before_by_index : r.index < i → stands_before r i s ≡ true
  unfolding stands_before
  before_by_index l = simp (ne_eqb r.index i (λ e. omega arith), lt-ltb r.index i l)

  pub after_by_sub : r.index ≡ i → s < r.sub → (has_key r i s ≡ false) × (stands_before r i s ≡ false)
  unfolding has_key stands_before
  after_by_sub e l =
      (simp (eq-eqb r.index i e, ne_eqb r.sub s (λ q. omega arith)), simp (eq-eqb r.index i e, le-ltb r.sub s (omega arith)))

  pub after_by_index : i < r.index → (has_key r i s ≡ false) × (stands_before r i s ≡ false)
  unfolding has_key stands_before
  after_by_index l =
      let n : eqb r.index i ≡ false = ne_eqb r.index i (λ e. omega arith) in
      (simp n, simp (n, le-ltb r.index i (omega arith)))

  key_here : r.index ≡ i → r.sub ≡ s → has_key r i s ≡ true
  unfolding has_key
  key_here e q = simp (eq-eqb r.index i e, eq-eqb r.sub s q)

  before_not_here : stands_before r i s ≡ true → has_key r i s ≡ false
  unfolding has_key stands_before
  before_not_here b = go (eqb r.index i) (eqb r.sub s) refl b
    where
      go : (a c : Bool) → eqb r.sub s ≡ c → cond a (ltb r.sub s) (ltb r.index i) ≡ true → (a && c) ≡ false
      go true true e q = absurd (omega (arith, eqb-true r.sub s e, ltb-true r.sub s q))
      go true false e q = refl
      go false c e q = refl

-- ---- what one look leaves

-- on either side of the middle at most half of the rows
half_left : (after : Bool) (low high : ℕ) → cond after high (middle low high) - cond after (middle low high + 1) low ≤ (high - low) / 2
half_left true low high = omega arith
half_left false low high = omega arith

module _ (table : List Row) (i s : ℕ) where
  -- two bounds on the number of looks, both no less than the number of rows left, give the same looks
  same-looks : (n p low high : ℕ) → high - low ≤ n → high - low ≤ p → some_looks n table i s low high ≡ some_looks p table i s low high
  unfolding some_looks
  same-looks zero zero low high h l = refl
  same-looks zero (suc p) low high h l = simp (le-ltb low high (omega arith))
  same-looks (suc n) zero low high h l = simp (le-ltb low high (omega arith))
  same-looks (suc n) (suc p) low high h l =
      let after = stands_before (get_or table (middle low high) no_row) i s in
      let half = half_left after low high in
      rw (same-looks n p (cond after (middle low high + 1) low) (cond after high (middle low high)) (omega arith) (omega arith))

  enough : (n low high : ℕ) → high - low ≤ n → some_looks n table i s low high ≡ looks table i s low high
  unfolding looks
  enough n low high h = same-looks n (high - low) low high h (omega arith)

  pub looks_none : (low left : ℕ) → left ≡ 0 → looks table i s low (low + left) ≡ []
  unfolding some_looks
  looks_none low left e = sym (enough 0 low (low + left) (omega arith))

  module _ (low left : ℕ) (some : 0 < left) where
    one_look : let m = low + left / 2 in
        let r = get_or table m no_row in
        let after = stands_before r i s in
        looks table i s low (low + left)
        ≡ m ∷ cond (has_key r i s) [] (looks table i s (cond after (m + 1) low) (cond after (low + left) m))
    unfolding some_looks
    one_look =
        let m = low + left / 2 in
        let after = stands_before (get_or table m no_row) i s in
        let e : low + left - low ≡ left = omega arith in
        let half = simp e at (half_left after low (low + left)) in
        sym (enough (suc left) low (low + left) (omega arith))
        ∙ simp (lt-ltb low (low + left) (omega arith), e, enough left (cond after (m + 1) low) (cond after (low + left) m) (omega arith))

    pub looks_here : (get_or table (low + left / 2) no_row).index ≡ i → (get_or table (low + left / 2) no_row).sub ≡ s
        → looks table i s low (low + left) ≡ (low + left / 2) ∷ []
    looks_here e q = one_look ∙ simp (key_here (get_or table (low + left / 2) no_row) i s e q)

    pub looks_behind : stands_before (get_or table (low + left / 2) no_row) i s ≡ true
        → looks table i s low (low + left)
        ≡ (low + left / 2) ∷ looks table i s (low + left / 2 + 1) (low + left / 2 + 1 + (left - left / 2 - 1))
    looks_behind b =
        let e : low + left / 2 + 1 + (left - left / 2 - 1) ≡ low + left = omega arith in
        one_look ∙ simp (before_not_here (get_or table (low + left / 2) no_row) i s b, b, e)

    pub looks_before : has_key (get_or table (low + left / 2) no_row) i s ≡ false
        → stands_before (get_or table (low + left / 2) no_row) i s ≡ false
        → looks table i s low (low + left) ≡ (low + left / 2) ∷ looks table i s low (low + left / 2)
    looks_before k b = one_look ∙ simp (k, b)

-- ---- what one row tells

module _ (table : List Row) (i s m : ℕ) (ms : List ℕ) (seen : Bool) where
  pub told_here : (get_or table m no_row).index ≡ i → (get_or table m no_row).sub ≡ s → told table i s seen (m ∷ ms) ≡ At m
  unfolding told
  told_here e q = simp (eq-eqb (get_or table m no_row).index i e, eq-eqb (get_or table m no_row).sub s q)

  pub told-seen : (get_or table m no_row).index ≡ i → ((get_or table m no_row).sub ≡ s → ⊥) → told table i s seen (m ∷ ms) ≡ told table i s true ms
  unfolding told
  told-seen e n = simp (eq-eqb (get_or table m no_row).index i e, ne_eqb (get_or table m no_row).sub s n)

  pub told_other : ((get_or table m no_row).index ≡ i → ⊥) → told table i s seen (m ∷ ms) ≡ told table i s seen ms
  unfolding told
  told_other n = simp (ne_eqb (get_or table m no_row).index i n)

-- ---- how many rows are looked at

module _ (table : List Row) (i s : ℕ) where
  -- each look leaves at most half of the rows: the bound n on the number of looks has no part in it
  few : (n low high k : ℕ) → high - low < 2 ^ k → length (some_looks n table i s low high) ≤ k
  unfolding some_looks
  few zero low high k h = omega arith
  few (suc n) low high zero h = simp (le-ltb low high (omega arith)) (omega arith)
  few (suc n) low high (suc k) h =
      let r = get_or table (middle low high) no_row in
      let after = stands_before r i s in
      let half = half_left after low high in
      go (ltb low high) (has_key r i s) _
      (few n (cond after (middle low high + 1) low) (cond after high (middle low high)) k (omega (arith, pow-suc 2 k)))
    where
      go : (a b : Bool) (rest : List ℕ) → length rest ≤ k → length (cond a (middle low high ∷ cond b [] rest) []) ≤ suc k
      go true true rest l = omega arith
      go true false rest l = omega arith
      go false b rest l = omega arith

  pub few_looks : (low high k : ℕ) → high - low < 2 ^ k → length (looks table i s low high) ≤ k
  unfolding looks
  few_looks low high k h = few (high - low) low high k h

  pub nine : length table ≤ 511 → length (looks table i s 0 (length table)) ≤ 9
  nine h = few_looks 0 (length table) 9 (omega arith)

-- ---- what all of them tell

-- row m is still sought: it has the index and, once the index was seen, the subindex too
record Sought (table : List Row) (i s : ℕ) (seen : Bool) (m : ℕ) : Type 0 where
  there : m < length table
  index_is : (get_or table m no_row).index ≡ i
  sub_is : seen ≡ true → (get_or table m no_row).sub ≡ s

-- some row has the index
abbrev SomeIndex : List Row → ℕ → Type 0
SomeIndex table i = (m : ℕ) × (m < length table) × ((get_or table m no_row).index ≡ i)

-- what the search keeps: each row that is still sought is left
record Left (table : List Row) (i s low left : ℕ) (seen : Bool) : Type 0 where
  inside : low + left ≤ length table
  within : (m : ℕ) → Sought table i s seen m → (low ≤ m) × (m < low + left)
  known : seen ≡ true → SomeIndex table i

-- what a look at row m, which does not have the key, makes of seen
record Becomes (table : List Row) (i s m : ℕ) (seen now : Bool) : Type 0 where
  tells : (ms : List ℕ) → told table i s seen (m ∷ ms) ≡ told table i s now ms
  sought : (q : ℕ) → Sought table i s now q → Sought table i s seen q
  known : now ≡ true → SomeIndex table i

module _ (table : List Row) (i s m : ℕ) (seen : Bool) where
  other_index : (seen ≡ true → SomeIndex table i) → ((get_or table m no_row).index ≡ i → ⊥) → Becomes table i s m seen seen
  other_index y n = record { tells = λ ms. told_other table i s m ms seen n; sought = λ q x. x; known = y }

  other_sub : m < length table → (get_or table m no_row).index ≡ i → ((get_or table m no_row).sub ≡ s → ⊥) → Becomes table i s m seen true
  other_sub h e n =
      record {
        tells = λ ms. told-seen table i s m ms seen e n;
        sought = λ q x. record { there = x.there; index_is = x.index_is; sub_is = λ _. x.sub_is refl };
        known = λ _. (m, h, e);
      }

module _ (table : List Row) (pass : T (table_ok table)) (i s : ℕ) where
  -- the row with the lesser key stands earlier
  earlier : (j k : ℕ) → j < length table → key (get_or table j no_row) < key (get_or table k no_row) → j < k
  earlier j k h l =
      by_order j k (λ a. a) (λ e. absurd (omega (arith, ap (λ (m : ℕ). key (get_or table m no_row)) e)))
      (λ a. absurd (omega (arith, (before_at table pass k j a h).rise)))

  -- the looks among the rows that are left tell what reading the whole table gives
  abbrev Tells : ℕ → ℕ → Bool → Type 0
  Tells low left seen = told table i s seen (looks table i s low (low + left)) ≡ find_from table 0 false i s

  none_left : (low left : ℕ) (seen : Bool) → left ≡ 0 → Left table i s low left seen → Tells low left seen
  unfolding told
  none_left low left true z k =
      let y = k.known refl in
      ap (told table i s true) (looks_none table i s low left z)
      ∙ sym (absent_sub table 0 false i s (λ m h e d.
      let w = k.within m (record { there = h; index_is = e; sub_is = λ _. d }) in omega arith) y.0 y.1 y.2)
  none_left low left false z k =
      ap (told table i s false) (looks_none table i s low left z)
      ∙ sym (absent_index table 0 false i s (λ m h e.
      let w = k.within m (record { there = h; index_is = e; sub_is = λ q. absurd (false≢true q) }) in omega arith))

  -- one look, where it is known what fewer rows tell
  module _ (low left : ℕ) (seen : Bool) (some : 0 < left) (k : Left table i s low left seen)
      (fewer : (low' left' : ℕ) (now : Bool) → left' < left → Left table i s low' left' now → Tells low' left' now) where
    in_table : low + left / 2 < length table
    in_table = omega (arith, k.inside)

    behind : (now : Bool) → Becomes table i s (low + left / 2) seen now → stands_before (get_or table (low + left / 2) no_row) i s ≡ true
        → ((q : ℕ) → Sought table i s now q → key (get_or table (low + left / 2) no_row) < key (get_or table q no_row)) → Tells low left seen
    behind now c b l =
        ap (told table i s seen) (looks_behind table i s low left some b) ∙ c.tells _
        ∙ fewer (low + left / 2 + 1) (left - left / 2 - 1) now (omega arith) (record {
          inside = omega (arith, k.inside);
          within = λ q y. let w = k.within q (c.sought q y) in (omega (arith, earlier (low + left / 2) q in_table (l q y)), omega arith);
          known = c.known;
        })

    before : (now : Bool) → Becomes table i s (low + left / 2) seen now
        → (has_key (get_or table (low + left / 2) no_row) i s ≡ false) × (stands_before (get_or table (low + left / 2) no_row) i s ≡ false)
        → ((q : ℕ) → Sought table i s now q → key (get_or table q no_row) < key (get_or table (low + left / 2) no_row)) → Tells low left seen
    before now c b l =
        ap (told table i s seen) (looks_before table i s low left some b.0 b.1) ∙ c.tells _
        ∙ fewer low (left / 2) now (omega arith) (record {
          inside = omega (arith, k.inside);
          within = λ q y. ((k.within q (c.sought q y)).0, earlier q (low + left / 2) y.there (l q y));
          known = c.known;
        })

    one_look_tells : Tells low left seen
    unfolding key
    one_look_tells =
        let m = low + left / 2 in
        let r = get_or table m no_row in
        let elsewhere = other_index table i s m seen k.known in
        let beside = other_sub table i s m seen in_table in
        by_order r.index i
        (λ l. behind seen (elsewhere (λ e. omega arith)) (before_by_index r i s l)
        (λ q y. omega (arith, y.index_is, (rule_at table pass m in_table).sub_byte)))
        (λ e. by_order r.sub s
        (λ l. behind true (beside e (λ d. omega arith)) (before_by_sub r i s e l) (λ q y. omega (arith, y.index_is, y.sub_is refl)))
        (λ d. ap (told table i s seen) (looks_here table i s low left some e d) ∙ told_here table i s m [] seen e d
        ∙ sym (found_once table pass i s m (record { there = in_table; index_is = e; sub_is = d })))
        (λ l. before true (beside e (λ d. omega arith)) (after_by_sub r i s e l) (λ q y. omega (arith, y.index_is, y.sub_is refl))))
        (λ l. before seen (elsewhere (λ e. omega arith)) (after_by_index r i s l)
        (λ q y. omega (arith, y.index_is, (rule_at table pass q y.there).sub_byte)))

  rest_tells : (n low left : ℕ) (seen : Bool) → left ≤ n → Left table i s low left seen → Tells low left seen
  rest_tells zero low left seen h k = none_left low left seen (omega arith) k
  rest_tells (suc n) low zero seen h k = none_left low 0 seen refl k
  rest_tells (suc n) low (suc left) seen h k =
      one_look_tells low (suc left) seen (omega arith) k (λ low' left' now l. rest_tells n low' left' now (omega arith))

pub looks-tell : (table : List Row) → T (table_ok table) → (i s : ℕ)
    → told table i s false (looks table i s 0 (length table)) ≡ find_from table 0 false i s
looks-tell table pass i s =
    let all_left : Left table i s 0 (length table) false =
    record { inside = omega arith; within = λ m y. (omega arith, omega (arith, y.there)); known = λ e. absurd (false≢true e) } in
    rw zero-add at (rest_tells table pass i s (length table) 0 (length table) false (omega arith) all_left)

pub rows_tell : (i s : ℕ) → told rows i s false (looks rows i s 0 row_count) ≡ find_row i s
unfolding find_row
rows_tell i s = rw rows-length at (looks-tell rows rows_pass i s)

-- ---- examples

abbrev keyed : ℕ → ℕ → Row
keyed i s = row i s BOOL RO 0 1 0 0 0 0

abbrev five : List Row
five = keyed 0x1000 0 ∷ keyed 0x1018 1 ∷ keyed 0x1018 2 ∷ keyed 0x2003 0 ∷ keyed 0x2010 0 ∷ []

pub five_found : looks five 0x2003 0 0 5 ≡ 2 ∷ 4 ∷ 3 ∷ []
unfolding looks some_looks has_key stands_before
five_found = refl

pub five_absent : looks five 0x1018 0 0 5 ≡ 2 ∷ 1 ∷ 0 ∷ []
unfolding looks some_looks has_key stands_before
five_absent = refl

pub five_told : told five 0x1018 0 false (2 ∷ 1 ∷ 0 ∷ []) ≡ NoSub
unfolding told
five_told = refl
