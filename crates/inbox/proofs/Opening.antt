-- Openings of writes with bytes behind them, by cases as the code takes them: each law takes what the calls ensure. Assumes nothing.
use mathlib.Core.Path.{◌≡◌, refl, sym, ap, ◌∙◌}
use mathlib.Core.Bool.{Bool, true, false, ◌&&◌, false≢true}
use mathlib.Core.Logic.{◌⊎◌, inl, inr}
use mathlib.Core.List.{List, []}
use mathlib.Core.Option.{some}
use Prim.Native.Nat.{ℕ, ◌-◌, ◌<◌, ◌≤◌}
use native.Mathlib.Omega.{arith}
use lib.ListN.{length, take, drop, length-drop}
use lib.Seq.{take_all}
use borrow.Author.Tests.{le-leb, lt-leb, lt-ltb, eqb-true, eqb-false}
use Rattle.order.specs.Talk.{Said, announced, unsaid, Request, expedited, open_write, write_opened, refused, Sizes, sizes, closed, Outcome, declined}
use Rattle.order.specs.Gauge.{too_long, by_length, narrow, narrowed, counted, judged, judged_by, write_whole}
use Rattle.order.specs.Serve.{keeping, take_more, write_opening, conclude, serve}
use Rattle.table.specs.Row.{smallest, largest, Allowed}
use Rattle.table.specs.Rows.{at_row}
use Rattle.table.specs.Find.{At, find_row}
use Rattle.table.proofs.Walks.{lt_or_ge}
use Rattle.std.specs.Prelude.{Option, Some, None, is_some, unwrap_or, Err, eqb}
use Rattle.table.specs.Codes.{code_of}
use Rattle.table.specs.declared.code.AbortCode.{AbortCode}
use Rattle.gate.specs.Gates.{write_gate, way_of}
use Rattle.gauge.specs.Memory.{Store}
use Rattle.gauge.specs.Whole.{write_sizes}
use Rattle.sdo.specs.declared.Key.{Key}
use Rattle.sdo.specs.Eight.{answer_of}
use Rattle.sdo.specs.Long.{opening_with}
use Rattle.transfer.specs.Records.{zero_record, zero_record_at, row_of, base}
use Rattle.transfer.proofs.RecordLaws.{found_number}
use Rattle.line.specs.Gauge.{plain, store_of}
use Rattle.line.specs.Serving.{Laid, laid, put_down, replied, misfit_code, Told, told, told_by, spoken_over, Writable}
use Rattle.line.proofs.Told.{over-told, over-replied, laid-told}
use Rattle.line.proofs.Writing.{within, let_through, sized-refused, sized-right, smallest_forgotten, announced-refused, announced-right}
use Rattle.line.proofs.Speaking.{row-sizes, shut_sizes}
use Rattle.inbox.specs.Taking.{asked_told, opening_asked}

too_many : {A : Type 0} (n m : ℕ) (refuse : ℕ → A) (pass : A) → n < m → by_length n n m refuse pass ≡ refuse too_long
unfolding by_length
too_many n m refuse pass h = rw (lt-ltb n m h)

-- all that stands behind the eight
pub rest_whole : (m : List ℕ) → take (length m - 8) (drop 8 m) ≡ drop 8 m
rest_whole m = take_all (length m - 8) (drop 8 m) (omega (arith, length-drop 8 m))

-- what is asked, by the bytes that came
module _ (k : Key) (n : ℕ) (bytes : List ℕ) where
  all_came : n ≤ length bytes → opening_asked k (Some n) bytes ≡ expedited k (announced n) bytes
  unfolding opening_asked opening_with
  all_came h = rw (le-leb n (length bytes) h)

  some_came : length bytes < n → opening_asked k (Some n) bytes ≡ open_write k (some n) bytes
  unfolding opening_asked opening_with
  some_came h = rw (lt-leb n (length bytes) h)

module _ (at : ℕ) (v b s a : List ℕ) (k : Key) where
  abbrev g : Store
  g = store_of v b s

  -- what the two kinds of request come to, by what the table says of the entry
  abbrev whole-told : ℕ → List ℕ → Sizes → Told
  whole-told n bytes z = told_by at s a (spoken_over zero_record (conclude plain g k (write_opened k) (judged_by plain g k (announced n) bytes (narrow z (announced n)))))

  abbrev parts_told : Said → List ℕ → Sizes → Told
  parts_told said bytes z = told_by at s a (spoken_over (zero_record_at (row_of k)) (keeping plain g (write_opening plain k bytes (narrow z said))))

  module _ (n : ℕ) (bytes : List ℕ) (z : Sizes) (e : write_sizes k.index k.sub ≡ z) where
    whole-asked : n ≤ length bytes → {x : Told} → x ≡ whole-told n bytes z → x ≡ asked_told at (opening_asked k (Some n) bytes) v b s a
    unfolding base serve write_whole
    whole-asked h q = q ∙ ap (whole-told n bytes) (sym e) ∙ ap (λ (r : Request Key). asked_told at r v b s a) (sym (all_came k n bytes h))

    parts_asked : length bytes < n → {x : Told} → x ≡ parts_told (announced n) bytes z → x ≡ asked_told at (opening_asked k (Some n) bytes) v b s a
    unfolding base serve
    parts_asked h q = q ∙ ap (parts_told (announced n) bytes) (sym e) ∙ ap (λ (r : Request Key). asked_told at r v b s a) (sym (some_came k n bytes h))

  module _ (bytes : List ℕ) (z : Sizes) (e : write_sizes k.index k.sub ≡ z) where
    unsized_asked : {x : Told} → x ≡ parts_told unsaid bytes z → x ≡ asked_told at (opening_asked k None bytes) v b s a
    unfolding opening_asked base serve
    unsized_asked q = q ∙ ap (parts_told unsaid bytes) (sym e)

  -- ---- on the row of the key

  module _ (row : ℕ) (w : Writable row) (found : find_row k.index k.sub ≡ At row) where
    abbrev low : ℕ
    low = smallest (at_row row)

    abbrev high : ℕ
    high = largest (at_row row)

    the_sizes : write_sizes k.index k.sub ≡ sizes low high
    the_sizes = row-sizes at v b s a [] k row w found

    row_parts : (bytes : List ℕ) (z : Sizes) {s' a' : List ℕ} → laid s' a' ≡ replied at s a (zero_record_at row) (write_opening plain k bytes z)
        → told v b s' a' ≡ told_by at s a (spoken_over (zero_record_at (row_of k)) (keeping plain g (write_opening plain k bytes z)))
    row_parts bytes z q = rw (found_number k row found) (laid-told at s a v b (zero_record_at row) _ q)

    parts_over : (bytes : List ℕ) → high < length bytes → {x : Laid} → x ≡ put_down at s a zero_record (answer_of (refused k too_long)) → x ≡ replied at s a (zero_record_at row) (write_opening plain k bytes (sizes low high))
    unfolding write_opening take_more
    parts_over bytes h q = rw (lt-ltb high (length bytes) h) (over-replied at s a (zero_record_at row) (refused k too_long) refl q)

    row_orders : low ≤ high
    unfolding smallest largest
    row_orders = omega arith

    module _ (bytes : List ℕ) {len : ℕ} {fits : Bool} (f : fits ≡ by_length low high len (λ c. false) true) where
      meant-fits : {m : ℕ} → len ≡ m → fits ≡ by_length low high m (λ c. false) true
      meant-fits e = f ∙ ap (λ (m : ℕ). by_length low high m (λ c. false) true) e

      -- a length that no value of the entry may have
      pub opening_misfits : (o : Option ℕ) → len ≡ unwrap_or o high → fits ≡ false → {s' a' : List ℕ} → laid s' a' ≡ put_down at s a zero_record (answer_of (refused k (misfit_code high len)))
          → told v b s' a' ≡ asked_told at (opening_asked k o bytes) v b s a
      unfolding narrow
      opening_misfits (Some n) e d {s'} {a'} q = by (lt_or_ge (length bytes) n)
        where
          told_so : laid s' a' ≡ put_down at s a zero_record (answer_of (refused k (misfit_code high n)))
          told_so = q ∙ ap (λ (m : ℕ). put_down at s a zero_record (answer_of (refused k (misfit_code high m)))) e

          by : (length bytes < n) ⊎ (n ≤ length bytes) → told v b s' a' ≡ asked_told at (opening_asked k (Some n) bytes) v b s a
          by (inl c) = parts_asked n bytes (sizes low high) the_sizes c (row_parts bytes _ (announced-refused at s a k row bytes low high n (meant-fits e) d told_so))
          by (inr c) = whole-asked n bytes (sizes low high) the_sizes c (sized-refused at v b s a k bytes low high n (meant-fits e) d told_so)
      opening_misfits None e d q = absurd (false≢true (sym d ∙ meant-fits e ∙ let_through low high high (λ c. false) true row_orders (omega arith)))

      module _ (fit : fits ≡ true) where
        pub meant-allowed : Allowed (at_row row) len
        meant-allowed = let in-range = within low high len f fit in record { enough = in-range.0; not_over = in-range.1 }

        -- more bytes than that
        pub opening_over : (o : Option ℕ) → len ≡ unwrap_or o high → len < length bytes → {s' a' : List ℕ} → laid s' a' ≡ put_down at s a zero_record (answer_of (refused k too_long))
            → told v b s' a' ≡ asked_told at (opening_asked k o bytes) v b s a
        unfolding narrow narrowed judged_by judged counted conclude
        opening_over (Some n) e c q =
            let in-range = within low high n (meant-fits e) fit in
            let over : by_length n n (length bytes) declined (plain.commit g k bytes) ≡ declined too_long = too_many n (length bytes) declined (plain.commit g k bytes) (omega (arith, e, c)) in
            whole-asked n bytes (sizes low high) the_sizes (omega (arith, e, c))
            (over-told at s a v b zero_record (refused k too_long) refl q
            ∙ ap (λ (o : Outcome Store). told_by at s a (spoken_over zero_record (conclude plain g k (write_opened k) o))) (sym over)
            ∙ ap (λ (z : Sizes). told_by at s a (spoken_over zero_record (conclude plain g k (write_opened k) (judged_by plain g k (announced n) bytes z)))) (sym (let_through low high n closed (sizes n n) in-range.0 in-range.1)))
        opening_over None e c q = unsized_asked bytes (sizes low high) the_sizes (row_parts bytes (sizes low high) (parts_over bytes (omega (arith, e, c)) q))

        -- all of it
        pub whole-length : (o : Option ℕ) → len ≡ unwrap_or o high → (is_some o && eqb len (length bytes)) ≡ true → len ≡ length bytes
        whole-length (Some n) e c = eqb-true len (length bytes) c
        whole-length None e c = absurd (false≢true c)

        pub opening_whole : (o : Option ℕ) → len ≡ unwrap_or o high → (is_some o && eqb len (length bytes)) ≡ true
            → {x : Told} → x ≡ told_by at s a (spoken_over zero_record (conclude plain g k (write_opened k) (plain.commit g k bytes)))
            → x ≡ asked_told at (opening_asked k o bytes) v b s a
        unfolding narrow
        opening_whole (Some n) e c q =
            let m : n ≡ length bytes = sym e ∙ eqb-true len (length bytes) c in
            whole-asked n bytes (sizes low high) the_sizes (omega (arith, m)) (sized-right at v b s a k bytes low high n (meant-fits e) fit (sym m) refl q)
        opening_whole None e c q = absurd (false≢true c)

        -- a part of it, or no length to tell by
        pub opening_begun : (o : Option ℕ) → len ≡ unwrap_or o high → (is_some o && eqb len (length bytes)) ≡ false → length bytes ≤ len
            → {s' a' : List ℕ} → laid s' a' ≡ replied at s a (zero_record_at row) (write_opening plain k bytes (sizes len len))
            → told v b s' a' ≡ asked_told at (opening_asked k o bytes) v b s a
        unfolding narrow narrowed
        opening_begun (Some n) e c m q =
            parts_asked n bytes (sizes low high) the_sizes (fewer (eqb-false len (length bytes) c))
            (row_parts bytes _ (announced-right at s a k row bytes low high n (meant-fits e) fit (rw e at q)))
          where
            fewer : (len ≡ length bytes → ⊥) → length bytes < n
            fewer ne = omega (arith, e, m, ne)
        opening_begun None e c m q =
            unsized_asked bytes (sizes low high) the_sizes (row_parts bytes _ (rw e at q ∙ smallest_forgotten at s a k row bytes low high))

    -- the value in the eight bytes
    pub opening_value : (said : Said) (bytes : List ℕ) {x : Told}
        → x ≡ told_by at s a (spoken_over zero_record (conclude plain g k (write_opened k) (judged_by plain g k said bytes (narrowed low high said)))) → x ≡ asked_told at (expedited k said bytes) v b s a
    unfolding narrow base serve write_whole
    opening_value said bytes q = q ∙ ap (λ (z : Sizes). told_by at s a (spoken_over zero_record (conclude plain g k (write_opened k) (judged_by plain g k said bytes (narrow z said))))) (sym the_sizes)

  -- there is no way to a row
  module _ (abort : AbortCode) (way : way_of (Err abort) ≡ write_gate (find_row k.index k.sub)) {s' a' : List ℕ} (q : laid s' a' ≡ put_down at s a zero_record (answer_of (refused k (code_of abort)))) where
    abbrev code : ℕ
    code = code_of abort

    pub value_shut : (said : Said) (bytes : List ℕ) → told v b s' a' ≡ asked_told at (expedited k said bytes) v b s a
    unfolding narrow judged_by conclude base serve write_whole
    value_shut said bytes =
        over-told at s a v b zero_record (refused k code) refl q
        ∙ ap (λ (z : Sizes). told_by at s a (spoken_over zero_record (conclude plain g k (write_opened k) (judged_by plain g k said bytes (narrow z said))))) (sym (shut_sizes k abort way))

    pub opening_shut : (o : Option ℕ) (bytes : List ℕ) → told v b s' a' ≡ asked_told at (opening_asked k o bytes) v b s a
    unfolding narrow judged_by conclude write_opening
    opening_shut (Some n) bytes = by (lt_or_ge (length bytes) n)
      where
        by : (length bytes < n) ⊎ (n ≤ length bytes) → told v b s' a' ≡ asked_told at (opening_asked k (Some n) bytes) v b s a
        by (inl c) = parts_asked n bytes (closed code) (shut_sizes k abort way) c (over-told at s a v b (zero_record_at (row_of k)) (refused k code) refl q)
        by (inr c) = whole-asked n bytes (closed code) (shut_sizes k abort way) c (over-told at s a v b zero_record (refused k code) refl q)
    opening_shut None bytes =
        unsized_asked bytes (closed code) (shut_sizes k abort way) (over-told at s a v b (zero_record_at (row_of k)) (refused k code) refl q)
