-- Writes: what the definitions come to under the tests that the code makes. Assumes nothing.
use mathlib.Core.Path.{◌≡◌, refl, sym, ap, ap₂, ◌∙◌}
use mathlib.Core.Bool.{Bool, true, false, cond, not, beq, ◌&&◌, false≢true}
use mathlib.Core.List.{List, ◌++◌}
use Prim.Native.Nat.{ℕ, ◌+◌, ◌≤◌, ◌<◌}
use native.Mathlib.Omega.{arith}
use Rattle.std.specs.Prelude.{Result, Ok, Err}
use lib.Dec.{leb, ltb}
use lib.ListN.{length, take, length-take}
use borrow.Author.Tests.{ltb-true, ltb-false, lt-ltb, le-ltb, lt-leb, le-leb, eq-eqb, ne_eqb}
use Rattle.wire.specs.Splice.{splice}
use Rattle.wire.specs.Little.{little}
use Rattle.wire.proofs.SpliceLaws.{splice_none, splice-again}
use Rattle.order.specs.Talk.{announced, own, Answer, write_opened, part_taken, refused, dropped, no_transfer, silent, Sizes, sizes, closed, Outcome, stored, restarted, declined, Pending, writing}
use Rattle.order.specs.Gauge.{too_long, too_short, by_length, narrowed, counted, judged_by, judged}
use Rattle.order.specs.Serve.{toggle_code, Reply, onwards, refuse, Served, write_opening, take_more, conclude, take_part, write_part}
use Rattle.table.specs.Row.{RO, Allowed}
use Rattle.table.specs.Rows.{at_row}
use Rattle.table.specs.Find.{find_row}
use Rattle.table.proofs.Lengths.{largest_is}
use Rattle.table.proofs.Table.{row_rule, row-found}
use Rattle.gate.specs.Gates.{Way, to_row, gate, write_gate}
use Rattle.gauge.specs.Memory.{Memory, Store, memory_of}
use Rattle.gauge.specs.Endings.{Ending, told_ending, Left, left, left_by}
use Rattle.gauge.specs.Whole.{commit_row, with_trips}
use Rattle.gauge.specs.declared.commit.Accepted.{Accepted}
use Rattle.gauge.specs.declared.commit.Accepted.TheVariants.{Plainly, Restarting}
use Rattle.gauge.proofs.ByGate.{commit_through, commit_by_gate}
use Rattle.sdo.specs.declared.Key.{Key}
use Rattle.sdo.specs.Eight.{answer_of}
use Rattle.transfer.specs.declared.Direction.{Direction}
use Rattle.transfer.specs.declared.Direction.TheVariants.{Neither, Reads, Writes}
use Rattle.transfer.specs.declared.Transfer.{Transfer}
use Rattle.transfer.specs.Records.{zero_record, zero_record_at, key_at, allows, counts, view, lay}
use Rattle.transfer.specs.Turns.{goes, is_writing, filled, opened_record, grown}
use Rattle.transfer.proofs.RecordLaws.{view-writing, no_writing, held_fits, sent-length, lay-writing, lay_begun}
use Rattle.state.specs.State.{record_at, record_bytes, fresh_state, settled}
use Rattle.line.specs.Gauge.{bag552, plain, store_of}
use Rattle.line.specs.Serving.{Laid, laid, put_down, ended_by, misfit_code, replied, replied_as, Told, told, told_by, spoken_over, Writable}
use Rattle.line.proofs.Told.{over-replied, onwards-replied, laid-told, over-told}

-- ---- a length judged

pub between_fits : (low high n : ℕ) → (leb low n && leb n high) ≡ by_length low high n (λ c. false) true
unfolding by_length
between_fits low high n = go (ltb n low) (ltb high n) (ltb-true n low) (ltb-false n low) (ltb-true high n) (ltb-false high n)
  where
    go : (x y : Bool) → (x ≡ true → n < low) → (x ≡ false → low ≤ n) → (y ≡ true → high < n) → (y ≡ false → n ≤ high) → (leb low n && leb n high) ≡ cond y false (cond x false true)
    go true true p q r s = rw (lt-leb low n (p refl))
    go true false p q r s = rw (lt-leb low n (p refl))
    go false true p q r s = rw (le-leb low n (q refl), lt-leb n high (r refl))
    go false false p q r s = rw (le-leb low n (q refl), le-leb n high (s refl))

module _ (low high n : ℕ) {fits : Bool} (e : fits ≡ by_length low high n (λ c. false) true) where
  by_misfit : {A : Type 0} (refuse : ℕ → A) (pass : A) → fits ≡ false → by_length low high n refuse pass ≡ refuse (misfit_code high n)
  unfolding by_length
  by_misfit {A} refuse pass d = go (ltb high n) (ltb n low) e
    where
      go : (x y : Bool) → fits ≡ cond x false (cond y false true) → cond x (refuse too_long) (cond y (refuse too_short) pass) ≡ refuse (cond x too_long too_short)
      go true y q = refl
      go false true q = refl
      go false false q = let z : ◌≡◌ {A = ℕ} 0 1 = cc in absurd (omega arith)

  pub within : fits ≡ true → (low ≤ n) × (n ≤ high)
  unfolding by_length
  within z = go (ltb high n) (ltb n low) (ltb-false high n) (ltb-false n low) e
    where
      go : (x y : Bool) → (x ≡ false → n ≤ high) → (y ≡ false → low ≤ n) → fits ≡ cond x false (cond y false true) → (low ≤ n) × (n ≤ high)
      go true y p r q = let z : ◌≡◌ {A = ℕ} 0 1 = cc in absurd (omega arith)
      go false true p r q = let z : ◌≡◌ {A = ℕ} 0 1 = cc in absurd (omega arith)
      go false false p r q = (r refl, p refl)

pub let_through : {A : Type 0} (low high n : ℕ) (refuse : ℕ → A) (pass : A) → low ≤ n → n ≤ high → by_length low high n refuse pass ≡ pass
unfolding by_length
let_through low high n refuse pass l h = rw (le-ltb high n h, le-ltb n low l)

-- ---- a row that may be written

pub row-most : {row len : ℕ} → Writable row → Allowed (at_row row) len → len ≤ 64
row-most {row} w e = let most = (row_rule row w.there).most in omega (arith, e.not_over, largest_is (at_row row), most)

-- the row of a write that a record holds
pub writing-row : (t : Transfer) → (is_writing t.direction && counts t) ≡ true → Writable t.row
unfolding goes allows
writing-row t e = let f = held_fits t (is_writing t.direction) e in record { there = f.there; open_to_writes = go t.direction e f.allowed }
  where
    go : (d : Direction) → (is_writing d && counts t) ≡ true → allows d (at_row t.row).access ≡ true → (at_row t.row).access ≡ RO → ⊥
    go Neither e a r = let z : ◌≡◌ {A = ℕ} 0 1 = cc in absurd (omega arith)
    go Reads e a r = let z : ◌≡◌ {A = ℕ} 0 1 = cc in absurd (omega arith)
    go Writes e a r = false≢true (ap not (sym (eq-eqb (at_row t.row).access RO r)) ∙ a)

-- ---- a whole write

-- a row that may be written lets a whole write through
open_gate : (row : ℕ) → Writable row → write_gate (find_row (at_row row).index (at_row row).sub) ≡ to_row row
unfolding gate
open_gate row w =
    rw (row-found (at_row row).index (at_row row).sub row (record { there = w.there; index_is = refl; sub_is = refl }), ne_eqb (at_row row).access RO w.open_to_writes)

commit_open : (row : ℕ) → Writable row → (g : Store) (bytes : List ℕ) → plain.commit g (key_at row) bytes ≡ with_trips g (commit_row row bytes g.memory)
unfolding commit_through
commit_open row w g bytes = commit_by_gate (at_row row).index (at_row row).sub g bytes ∙ ap (λ (y : Way). commit_through y g bytes) (open_gate row w)

-- what it leaves, by how it ends: the answer that agrees stands in the room already
module _ (at : ℕ) (s a : List ℕ) (row : ℕ) where
  -- by the ending with its code
  ended_told : Result Accepted ℕ → Laid
  ended_told (Ok Plainly) = laid (splice s at (record_bytes zero_record)) a
  ended_told (Ok Restarting) = laid (fresh_state s) a
  ended_told (Err code) = put_down at s a zero_record (answer_of (refused (key_at row) code))

  ended_so : (e : Ending) → ended_by at row s a e ≡ ended_told (told_ending e)
  unfolding ended_by ended_told told_ending
  ended_so (Ok Plainly) = refl
  ended_so (Ok Restarting) = refl
  ended_so (Err abort) = refl

  module _ (v b : List ℕ) where
    abbrev concluded : Outcome Store → Told
    concluded o = told_by at s a (spoken_over zero_record (conclude plain (store_of v b s) (key_at row) silent o))

    abbrev told-ended : Left → Laid → Told
    told-ended l k = told l.values l.block k.state k.answer

    by_outcome : (o : Outcome Memory) → told-ended (left_by (memory_of v b) o) (ended_told (left_by (memory_of v b) o).ending) ≡ concluded (with_trips (store_of v b s) o)
    unfolding told_by settled conclude with_trips left_by lay answer_of ended_told put_down
    by_outcome (stored n) = ap (told n.values n.block (splice s at (record_bytes zero_record))) (sym (splice_none a 0))
    by_outcome (restarted n) = ap (told n.values n.block (fresh_state s)) (sym (splice_none a 0))
    by_outcome (declined c) = refl

    pub concluded_told : {v' b' s' a' : List ℕ} (e : Ending) → Writable row → (bytes : List ℕ) → left e v' b' ≡ left_by (memory_of v b) (commit_row row bytes (memory_of v b)) → laid s' a' ≡ ended_by at row s a e
        → told v' b' s' a' ≡ concluded (plain.commit (store_of v b s) (key_at row) bytes)
    concluded_told e w bytes q z =
        ap₂ told-ended q (z ∙ ended_so e ∙ ap (λ (l : Left). ended_told l.ending) q)
        ∙ by_outcome (commit_row row bytes (memory_of v b))
        ∙ ap concluded (sym (commit_open row w (store_of v b s) bytes))

-- with the answer in the room
agreed_told : (at : ℕ) (s before : List ℕ) (c : Transfer) (g : Store) (k : Key) (agreed : Answer Key) {a : List ℕ} → a ≡ splice before 0 (answer_of agreed) → length (answer_of agreed) ≡ 8
    → (o : Outcome Store) → told_by at s a (spoken_over zero_record (conclude plain g k silent o)) ≡ told_by at s before (spoken_over c (conclude plain g k agreed o))
unfolding told_by conclude lay answer_of little
agreed_told at s before c g k agreed {a} e n (stored h) = ap (told h.memory.values h.memory.block (settled at zero_record false s)) (splice_none a 0 ∙ e)
agreed_told at s before c g k agreed {a} e n (restarted h) = ap (told h.memory.values h.memory.block (settled at zero_record true s)) (splice_none a 0 ∙ e)
agreed_told at s before c g k agreed {a} e n (declined code) =
    ap (told g.memory.values g.memory.block (settled at zero_record false s))
    (ap (λ (l : List ℕ). splice l 0 (answer_of (refused k code))) e ∙ splice-again before 0 (answer_of agreed) (answer_of (refused k code)) n (omega arith))

-- ---- the room has the answer, and the write is concluded

module _ (at : ℕ) (v b s a : List ℕ) where
  -- a value with its opening
  pub value-told : (row : ℕ) {k : Key} (bytes : List ℕ) {x : Told} {a' eight : List ℕ} → k ≡ key_at row → eight ≡ answer_of (write_opened k) → a' ≡ splice a 0 eight
      → x ≡ told_by at s a' (spoken_over zero_record (conclude plain (store_of v b s) (key_at row) silent (plain.commit (store_of v b s) (key_at row) bytes)))
      → x ≡ told_by at s a (spoken_over zero_record (conclude plain (store_of v b s) k (write_opened k) (plain.commit (store_of v b s) k bytes)))
  unfolding answer_of
  value-told row {k} bytes {x} {a'} key e r q =
      q
      ∙ ap (λ (j : Key). told_by at s a' (spoken_over zero_record (conclude plain (store_of v b s) j silent (plain.commit (store_of v b s) j bytes)))) (sym key)
      ∙ agreed_told at s a zero_record (store_of v b s) k (write_opened k) (r ∙ ap (splice a 0) e) refl (plain.commit (store_of v b s) k bytes)

  -- ---- a value of a length that is said, or of the entry's own

  module _ (k : Key) (bytes : List ℕ) where
    abbrev outcome_told : Outcome Store → Told
    outcome_told o = told_by at s a (spoken_over zero_record (conclude plain (store_of v b s) k (write_opened k) o))

    declined-told : (code : ℕ) {s' a' : List ℕ} → laid s' a' ≡ put_down at s a zero_record (answer_of (refused k code)) → told v b s' a' ≡ outcome_told (declined code)
    unfolding conclude
    declined-told code q = over-told at s a v b zero_record (refused k code) refl q

    module _ (low high n : ℕ) {fits : Bool} (f : fits ≡ by_length low high n (λ c. false) true) where
      abbrev sized : Outcome Store
      sized = judged_by plain (store_of v b s) k (announced n) bytes (narrowed low high (announced n))

      pub sized-refused : {s' a' : List ℕ} → fits ≡ false → laid s' a' ≡ put_down at s a zero_record (answer_of (refused k (misfit_code high n))) → told v b s' a' ≡ outcome_told sized
      unfolding narrowed judged_by
      sized-refused d q = declined-told (misfit_code high n) q ∙ ap (λ (z : Sizes). outcome_told (judged_by plain (store_of v b s) k (announced n) bytes z)) (sym (by_misfit low high n f closed (sizes n n) d))

      pub sized-right : {x : Told} {value : List ℕ} → fits ≡ true → length bytes ≡ n → value ≡ bytes → x ≡ outcome_told (plain.commit (store_of v b s) k value) → x ≡ outcome_told sized
      unfolding narrowed judged_by judged counted
      sized-right z l e q =
          let in-range = within low high n f z in
          q
          ∙ ap (λ (y : List ℕ). outcome_told (plain.commit (store_of v b s) k y)) e
          ∙ ap outcome_told (sym (let_through n n (length bytes) declined (plain.commit (store_of v b s) k bytes) (omega arith) (omega arith)))
          ∙ ap (λ (y : Sizes). outcome_told (judged_by plain (store_of v b s) k (announced n) bytes y)) (sym (let_through low high n closed (sizes n n) in-range.0 in-range.1))

    abbrev own-length : ℕ → Outcome Store
    own-length high = judged_by plain (store_of v b s) k own bytes (sizes high high)

    pub own-refused : (high : ℕ) {count : ℕ} {s' a' : List ℕ} → length bytes ≡ count → count < high → laid s' a' ≡ put_down at s a zero_record (answer_of (refused k too_short)) → told v b s' a' ≡ outcome_told (own-length high)
    unfolding judged_by judged counted by_length
    own-refused high {count} l h q =
        let m : length (take high bytes) ≡ count = rw length-take (omega arith) in
        declined-told too_short q ∙ rw (m, le-ltb high count (omega arith), lt-ltb count high h)

    pub own-right : (high : ℕ) {x : Told} {value : List ℕ} → value ≡ take high bytes → length value ≡ high → x ≡ outcome_told (plain.commit (store_of v b s) k value) → x ≡ outcome_told (own-length high)
    unfolding judged_by judged counted
    own-right high {x} {value} e l q =
        q
        ∙ ap outcome_told (sym (let_through high high (length value) declined (plain.commit (store_of v b s) k value) (omega arith) (omega arith)))
        ∙ ap (λ (y : List ℕ). outcome_told (judged plain (store_of v b s) k high high y)) e

  -- ---- the last part

  module _ (t : Transfer) (bytes : List ℕ) (inside : t.place ≤ length t.held) {count : ℕ} {fits : Bool} (long : length bytes ≡ count)
      (f : fits ≡ by_length t.len t.len (t.place + count) (λ c. false) true) where
    abbrev all : List ℕ
    all = take t.place t.held ++ bytes

    abbrev last-told : Outcome Store → Told
    last-told o = told_by at s a (spoken_over t (conclude plain (store_of v b s) (key_at t.row) (part_taken t.toggle) o))

    abbrev last-part : Told
    last-part = told_by at s a (spoken_over t (take_part plain (store_of v b s) (key_at t.row) t.len t.len all (not t.toggle) true (part_taken t.toggle)))

    all-judged : by_length t.len t.len (t.place + count) declined (plain.commit (store_of v b s) (key_at t.row) all) ≡ judged plain (store_of v b s) (key_at t.row) t.len t.len all
    unfolding judged
    all-judged = ap (λ (n : ℕ). by_length t.len t.len n declined (plain.commit (store_of v b s) (key_at t.row) all)) (sym (sent-length t bytes inside ∙ ap (λ (n : ℕ). t.place + n) long))

    pub last-refused : {k : Key} {s' a' : List ℕ} → k ≡ key_at t.row → fits ≡ false → laid s' a' ≡ put_down at s a zero_record (answer_of (refused k (misfit_code t.len (t.place + count)))) → told v b s' a' ≡ last-part
    unfolding take_part conclude
    last-refused key d q =
        over-told at s a v b t (refused (key_at t.row) (misfit_code t.len (t.place + count))) (ap (λ (k : Key). answer_of (refused k (misfit_code t.len (t.place + count)))) key) q
        ∙ ap last-told (sym (by_misfit t.len t.len (t.place + count) f declined (plain.commit (store_of v b s) (key_at t.row) all) d) ∙ all-judged)

    pub last-right : {x : Told} {a' eight held : List ℕ} → fits ≡ true → eight ≡ answer_of (part_taken t.toggle) → a' ≡ splice a 0 eight → held ≡ all
        → x ≡ told_by at s a' (spoken_over zero_record (conclude plain (store_of v b s) (key_at t.row) silent (plain.commit (store_of v b s) (key_at t.row) held)))
        → x ≡ last-part
    unfolding take_part answer_of
    last-right z e r h q =
        let in-range = within t.len t.len (t.place + count) f z in
        rw h at q
        ∙ agreed_told at s a t (store_of v b s) (key_at t.row) (part_taken t.toggle) (r ∙ ap (splice a 0) e) refl (plain.commit (store_of v b s) (key_at t.row) all)
        ∙ ap last-told (sym (let_through t.len t.len (t.place + count) declined (plain.commit (store_of v b s) (key_at t.row) all) in-range.0 in-range.1) ∙ all-judged)

-- ---- replies: a part that is not the last, and openings of writes in parts

module _ (at : ℕ) (s a : List ℕ) where
  module _ (t : Transfer) (bytes : List ℕ) (inside : t.place ≤ length t.held) {count : ℕ} (long : length bytes ≡ count) where
    abbrev more : Reply plain
    more = take_more plain (key_at t.row) t.len t.len (take t.place t.held ++ bytes) (not t.toggle) (part_taken t.toggle)

    sent-count : length (take t.place t.held ++ bytes) ≡ t.place + count
    sent-count = sent-length t bytes inside ∙ ap (λ (n : ℕ). t.place + n) long

    pub more_refused : {k : Key} {x : Laid} → k ≡ key_at t.row → t.len < t.place + count → x ≡ put_down at s a zero_record (answer_of (refused k too_long)) → x ≡ replied at s a t more
    unfolding take_more
    more_refused {k} {x} key h q =
        rw (sent-count, lt-ltb t.len (t.place + count) h)
        (over-replied at s a t (refused (key_at t.row) too_long) (ap (λ (k : Key). answer_of (refused k too_long)) key) q)

    pub more_taken : {s' a' eight : List ℕ} → t.place + count ≤ t.len → s' ≡ splice s at (record_bytes (grown t bytes)) → a' ≡ splice a 0 eight → eight ≡ answer_of (part_taken t.toggle)
        → laid s' a' ≡ replied at s a t more
    unfolding take_more put_down
    more_taken h p r e =
        rw (le-ltb t.len (length (take t.place t.held ++ bytes)) (omega (arith, sent-count)))
        (onwards-replied at s a t (grown t bytes) _ (part_taken t.toggle) e (sym (lay-writing t bytes inside t.len)) (ap₂ laid p r))

  module _ (k : Key) (row : ℕ) where
    -- with the bytes that the opening brings
    pub parts_opened : (len : ℕ) (bytes : List ℕ) {next : Transfer} {x : Laid} {eight : List ℕ} → length bytes ≤ len → next ≡ opened_record Writes row (filled bytes) len (length bytes)
        → eight ≡ answer_of (write_opened k) → x ≡ put_down at s a next eight → x ≡ replied at s a (zero_record_at row) (write_opening plain k bytes (sizes len len))
    unfolding write_opening take_more
    parts_opened len bytes h n e q =
        rw (le-ltb len (length bytes) h)
        (onwards-replied at s a (zero_record_at row) _ (writing k len len bytes false) (write_opened k) e (n ∙ sym (lay_begun row k len len bytes)) q)

    module _ (bytes : List ℕ) where
      abbrev parts_replied : Sizes → Laid
      parts_replied z = replied at s a (zero_record_at row) (write_opening plain k bytes z)

      -- the record does not keep the smallest length
      pub smallest_forgotten : (low high : ℕ) → parts_replied (sizes high high) ≡ parts_replied (sizes low high)
      unfolding write_opening take_more replied_as lay
      smallest_forgotten low high = go (ltb high (length bytes))
        where
          go : (d : Bool)
              → replied at s a (zero_record_at row) (cond d (refuse plain k too_long) (onwards plain (writing k high high bytes false) (write_opened k)))
              ≡ replied at s a (zero_record_at row) (cond d (refuse plain k too_long) (onwards plain (writing k low high bytes false) (write_opened k)))
          go true = refl
          go false = refl

      module _ (low high n : ℕ) {fits : Bool} (f : fits ≡ by_length low high n (λ c. false) true) where
        pub announced-refused : {x : Laid} → fits ≡ false → x ≡ put_down at s a zero_record (answer_of (refused k (misfit_code high n))) → x ≡ parts_replied (narrowed low high (announced n))
        unfolding write_opening narrowed
        announced-refused d q =
            over-replied at s a (zero_record_at row) (refused k (misfit_code high n)) refl q ∙ ap parts_replied (sym (by_misfit low high n f closed (sizes n n) d))

        pub announced-right : {x : Laid} → fits ≡ true → x ≡ parts_replied (sizes n n) → x ≡ parts_replied (narrowed low high (announced n))
        unfolding narrowed
        announced-right z q =
            let in-range = within low high n f z in
            q ∙ ap parts_replied (sym (let_through low high n closed (sizes n n) in-range.0 in-range.1))

-- ---- a part, by the record

module _ (at : ℕ) (v b s a : List ℕ) (t : Transfer) (u : Bool) (bytes : List ℕ) (last : Bool) where
  abbrev sent : Transfer → Told
  sent r = told_by at s a (spoken_over r (write_part plain (store_of v b s) (view r) u bytes last))

  module _ (held : t ≡ record_at s at) where
    module _ (writes : (is_writing t.direction && counts t) ≡ true) where
      abbrev sent-seen : Pending Key → Told
      sent-seen y = told_by at s a (spoken_over t (write_part plain (store_of v b s) y u bytes last))

      seen : {x : Told} → x ≡ sent-seen (writing (key_at t.row) t.len t.len (take t.place t.held) t.toggle) → x ≡ sent (record_at s at)
      seen q = q ∙ ap sent-seen (sym (view-writing t writes)) ∙ ap sent held

      pub sent-right : {x : Told} → beq t.toggle u ≡ true
          → x ≡ told_by at s a (spoken_over t (take_part plain (store_of v b s) (key_at t.row) t.len t.len (take t.place t.held ++ bytes) (not t.toggle) last (part_taken t.toggle)))
          → x ≡ sent (record_at s at)
      unfolding write_part
      sent-right r q = seen (rw r q)

      pub sent-last : {x : Told} → beq t.toggle u ≡ true → last ≡ true
          → x ≡ told_by at s a (spoken_over t (take_part plain (store_of v b s) (key_at t.row) t.len t.len (take t.place t.held ++ bytes) (not t.toggle) true (part_taken t.toggle)))
          → x ≡ sent (record_at s at)
      sent-last r l q = sent-right r (rw l q)

      pub sent_more : {s' a' : List ℕ} → beq t.toggle u ≡ true → last ≡ false
          → laid s' a' ≡ replied at s a t (take_more plain (key_at t.row) t.len t.len (take t.place t.held ++ bytes) (not t.toggle) (part_taken t.toggle))
          → told v b s' a' ≡ sent (record_at s at)
      unfolding take_part
      sent_more r l q = sent-right r (rw l (laid-told at s a v b t _ q))

      pub sent_wrong : {k : Key} {s' a' : List ℕ} → beq t.toggle u ≡ false → k ≡ key_at t.row → laid s' a' ≡ put_down at s a zero_record (answer_of (dropped k toggle_code))
          → told v b s' a' ≡ sent (record_at s at)
      unfolding write_part
      sent_wrong r key q =
          seen (rw r (over-told at s a v b t (dropped (key_at t.row) toggle_code) (ap (λ (k : Key). answer_of (dropped k toggle_code)) key) q))

    pub sent_none : {s' a' eight : List ℕ} → (is_writing t.direction && counts t) ≡ false → eight ≡ answer_of no_transfer → laid s' a' ≡ put_down at s a zero_record eight
        → told v b s' a' ≡ sent (record_at s at)
    sent_none n e q =
        over-told at s a v b t no_transfer e q
        ∙ ap (λ (z : Served plain). told_by at s a (spoken_over t z)) (sym (no_writing t bag552 (store_of v b s) u bytes last n))
        ∙ ap sent held
