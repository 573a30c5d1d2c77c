-- Reads by mailbox by cases, as the code takes them: each law takes what the calls ensure. Assumes nothing.
use mathlib.Core.Path.{◌≡◌, refl, sym, ap, ap₂, ◌∙◌}
use mathlib.Core.Bool.{Bool, true, false, ◌&&◌, beq}
use mathlib.Core.List.{List, [], ◌∷◌, ◌++◌}
use Prim.Native.Nat.{ℕ, ◌+◌, ◌-◌, ◌*◌, ◌%◌, ◌<◌, ◌≤◌, min}
use native.Mathlib.Omega.{arith}
use lib.ListN.{length, take, drop, length-append, length-drop, length-replicate}
use lib.Seq.{take_all, length-take-le}
use borrow.Author.Tests.{le-leb}
use Rattle.wire.specs.Splice.{splice}
use Rattle.wire.specs.Little.{little}
use Rattle.wire.specs.Flags.{bit}
use Rattle.wire.proofs.SpliceLaws.{splice_behind}
use Rattle.order.specs.Talk.{Answer, opened, part_given, refused, dropped, no_transfer, value}
use Rattle.order.specs.Serve.{toggle_code, over, Reply, read_opening, give_part, read_part}
use Rattle.table.specs.Row.{CARD}
use Rattle.table.specs.Rows.{at_row, row_count}
use Rattle.table.specs.Find.{find_row}
use Rattle.gate.specs.Gates.{read_gate, way_of}
use Rattle.std.specs.Prelude.{Ok, Err}
use Rattle.table.specs.Codes.{code_of}
use Rattle.table.specs.declared.code.AbortCode.{AbortCode}
use Rattle.gauge.specs.Whole.{value_of}
use Rattle.gauge.proofs.ValueLaws.{value-length, stored-value}
use Rattle.sdo.specs.declared.Key.{Key}
use Rattle.sdo.specs.Eight.{answer_of, short}
use Rattle.sdo.specs.Long.{long_form, long_answer}
use Rattle.sdo.proofs.LongTrip.{long_part_is}
use Rattle.transfer.specs.declared.Transfer.{Transfer}
use Rattle.transfer.specs.Records.{zero_record, zero_record_at, key_at, row_of, view, lay, counts}
use Rattle.transfer.specs.Turns.{is_reading, filled}
use Rattle.transfer.proofs.RecordLaws.{no_reading, filled-value, part-within}
use Rattle.state.specs.State.{record_at, record_bytes}
use Rattle.line.specs.Gauge.{bag552, plain}
use Rattle.line.specs.Serving.{Laid, replied_as, laid, put_down}
use Rattle.line.proofs.Reading.{part_goes, part-drops, opening, way_row, way_opens, way_stops}
use Rattle.outbox.specs.Showing.{SdoLong, long_replied, reply_length}

-- what a function that replies leaves, and the length that it gives back
abbrev pub Replies : ℕ → List ℕ → List ℕ → Transfer → Reply plain → Laid → ℕ → Type 0
Replies at s a b r x n = (x ≡ long_replied at s a b r) × (n ≡ reply_length r) × SdoLong n

pub eight_fits : SdoLong 8
eight_fits = record { least = omega arith; most = omega arith }

module _ (at : ℕ) (s a : List ℕ) where
  -- a transfer that is over leaves zeros, whatever its record would be laid over
  over_long : (b : Transfer) (t : Answer Key) {x : Laid} {bytes : List ℕ} {n : ℕ} → bytes ≡ long_answer t → x ≡ put_down at s a zero_record bytes → n ≡ length bytes → SdoLong n
      → Replies at s a b (over plain t) x n
  unfolding replied_as lay
  over_long b t e q l f = (q ∙ ap (put_down at s a zero_record) e, l ∙ ap length e, f)

  instead : (b : Transfer) {r r' : Reply plain} {x : Laid} {n : ℕ} → r ≡ r' → Replies at s a b r x n → Replies at s a b r' x n
  instead b e p = (p.0 ∙ ap (long_replied at s a b) e, p.1 ∙ ap reply_length e, p.2)

  -- bytes that are written behind what was put down
  put_behind : (bytes more : List ℕ) (k : ℕ) {s' a' a'' : List ℕ} → length bytes ≡ k → k + length more ≤ length a → laid s' a' ≡ put_down at s a zero_record bytes → a'' ≡ splice a' k more
      → laid s' a'' ≡ put_down at s a zero_record (bytes ++ more)
  unfolding put_down
  put_behind bytes more k l h p q =
      ap₂ laid (ap (λ (x : Laid). x.state) p)
      (q ∙ ap (λ (y : List ℕ). splice y k more) (ap (λ (x : Laid). x.answer) p) ∙ splice_behind a 0 bytes more k (omega (arith, l)) h)

-- ---- openings: all of the value goes with it

carried-all : (k : Key) (bytes : List ℕ) → length bytes ≤ 112 → over plain (opened k (length bytes) bytes true) ≡ read_opening plain long_form k (value bytes)
unfolding read_opening long_form
carried-all k bytes h =
    rw (le-leb (length bytes) 112 h) (ap (λ (l : List ℕ). over plain (opened k (length bytes) l true)) (sym (take_all (min (length bytes) 112) bytes (omega arith))))

short-eight : (k : Key) (n : ℕ) (bytes : List ℕ) → length bytes ≤ 4 → length (answer_of (opened k n bytes true)) ≡ 8
unfolding answer_of
short-eight k n bytes h = simp (length-append, length-replicate) (omega arith)

module _ (values : List ℕ) (row : ℕ) (there : row < row_count) (long : length values ≡ 1024) {len : ℕ} (el : len ≡ (at_row row).len) (most : len ≤ 64) where
  abbrev shown : List ℕ
  shown = value_of (at_row row) values

  shown-length : length shown ≡ len
  shown-length = value-length row there values long ∙ sym el

  module _ (at : ℕ) (s a : List ℕ) (k : Key) where
    opens : {x : Laid} {n : ℕ} → Replies at s a (zero_record_at row) (over plain (opened k (length shown) shown true)) x n
        → Replies at s a (zero_record_at row) (read_opening plain long_form k (value shown)) x n
    opens p = instead at s a (zero_record_at row) (carried-all k shown (omega (arith, shown-length))) p

    pub box_short : {x : Laid} {e : List ℕ} → short len ≡ true → len ≤ 4 → e ≡ answer_of (opened k len shown true) → x ≡ put_down at s a zero_record e
        → Replies at s a (zero_record_at row) (read_opening plain long_form k (value shown)) x 8
    unfolding long_answer
    box_short h m q p =
        opens (over_long at s a (zero_record_at row) (opened k (length shown) shown true) (q ∙ rw (shown-length, h)) p (sym (ap length q ∙ short-eight k len shown (omega (arith, shown-length)))) eight_fits)

    pub box_long : {s' a' a'' e : List ℕ} {n : ℕ} → short len ≡ false → e ≡ answer_of (opened k len [] false) → 120 ≤ length a
        → laid s' a' ≡ put_down at s a zero_record e → a'' ≡ splice a' 8 shown → n ≡ 8 + len
        → Replies at s a (zero_record_at row) (read_opening plain long_form k (value shown)) (laid s' a'') n
    unfolding long_answer answer_of little
    box_long {s'} {a'} {a''} {e} h q room p r j =
        let l : length e ≡ 8 = ap length q in
        opens
        (over_long at s a (zero_record_at row) (opened k (length shown) shown true) {bytes = e ++ shown} (ap (λ (y : List ℕ). y ++ shown) q ∙ rw (shown-length, h))
        (put_behind at s a e shown 8 l (omega (arith, shown-length)) p r)
        (j ∙ sym (length-append e shown ∙ omega (arith, l, shown-length))) (record { least = omega (arith, j); most = omega (arith, j) }))

-- the value behind its opening
module _ (values : List ℕ) (row : ℕ) (there : row < row_count) (long : length values ≡ 1024) (a : List ℕ) where
  pub shown-stored : {len place : ℕ} {a' : List ℕ} → len ≡ (at_row row).len → (at_row row).kind < CARD → place ≡ (at_row row).place → a' ≡ splice a 8 (take len (drop place values)) → a' ≡ splice a 8 (value_of (at_row row) values)
  shown-stored l b p q = q ∙ ap (splice a 8) (sym (stored-value row there values b ∙ rw (l, p)))

  pub shown-held : {len : ℕ} {held a' : List ℕ} → len ≡ (at_row row).len → held ≡ filled (value_of (at_row row) values) → a' ≡ splice a 8 (take len held) → a' ≡ splice a 8 (value_of (at_row row) values)
  shown-held {len} l h q = q ∙ ap (splice a 8) (ap (take len) h ∙ filled-value (value_of (at_row row) values) len (value-length row there values long ∙ sym l))

-- a read goes through the gate of its key
module _ (at : ℕ) (v s a : List ℕ) (k : Key) {x : Laid} {n : ℕ} where
  pub box_led : (row : ℕ) → way_of (Ok row) ≡ read_gate (find_row k.index k.sub) → Replies at s a (zero_record_at row) (read_opening plain long_form k (value (value_of (at_row row) v))) x n
      → Replies at s a (zero_record_at (row_of k)) (opening long_form v s k) x n
  box_led row way p = rw (way_row long_form v s k row way) (instead at s a (zero_record_at row) (way_opens long_form v s k row way) p)

  pub box_stopped : (abort : AbortCode) → way_of (Err abort) ≡ read_gate (find_row k.index k.sub) → x ≡ put_down at s a zero_record (answer_of (refused k (code_of abort))) → n ≡ 8
      → Replies at s a (zero_record_at (row_of k)) (opening long_form v s k) x n
  unfolding long_answer answer_of little
  box_stopped abort way p l =
      instead at s a (zero_record_at (row_of k)) (way_stops long_form v s k abort way) (over_long at s a (zero_record_at (row_of k)) (refused k (code_of abort)) refl p l (rw l eight_fits))

-- ---- parts: all that is left goes with it

part-eight : (t : Bool) (bytes : List ℕ) → length bytes ≤ 7 → length (answer_of (part_given t bytes true)) ≡ 8
unfolding answer_of
part-eight t bytes h = simp (length-append, length-replicate) (omega arith)

module _ (at : ℕ) (s a : List ℕ) (t : Transfer) (long : length t.held ≡ 64) (most : t.len ≤ 64) (inside : t.place ≤ t.len) where
  abbrev left : List ℕ
  left = drop t.place (take t.len t.held)

  left-length : length left ≡ t.len - t.place
  left-length = length-drop t.place (take t.len t.held) ∙ ap (λ (n : ℕ). n - t.place) (length-take-le t.len t.held (omega arith))

  gives : {x : Laid} {n : ℕ} → Replies at s a t (over plain (part_given t.toggle left true)) x n
      → Replies at s a t (give_part plain long_form (key_at t.row) (take t.len t.held) t.place t.toggle) x n
  unfolding give_part long_form
  gives p =
      let l : length (take t.len t.held) ≡ t.len = length-take-le t.len t.held (omega arith) in
      rw (l, le-leb t.len (t.place + 119) (omega arith), take_all 119 left (omega (arith, left-length))) p

  pub box_few : {x : Laid} {e : List ℕ} → t.len ≤ t.place + 7 → e ≡ answer_of (part_given t.toggle (take 7 left) true) → x ≡ put_down at s a zero_record e
      → Replies at s a t (give_part plain long_form (key_at t.row) (take t.len t.held) t.place t.toggle) x 8
  unfolding long_answer
  box_few h q p =
      let few : length left ≤ 7 = omega (arith, left-length) in
      let e = q ∙ ap (λ (l : List ℕ). answer_of (part_given t.toggle l true)) (take_all 7 left few) in
      gives (over_long at s a t (part_given t.toggle left true) e p (sym (ap length e ∙ part-eight t.toggle left few)) eight_fits)

  pub box_many : {s' a' a'' : List ℕ} {head count n : ℕ} → count ≡ t.len - t.place → 7 < count → head ≡ 16 * bit t.toggle + 1 → 120 ≤ length a → s' ≡ splice s at (record_bytes zero_record)
      → a' ≡ splice a 0 (little 1 head) → a'' ≡ splice a' 1 (take count (drop t.place t.held)) → n ≡ 1 + count
      → Replies at s a t (give_part plain long_form (key_at t.row) (take t.len t.held) t.place t.toggle) (laid s' a'') n
  unfolding long_answer put_down little
  box_many {s'} {a'} {a''} {head} {count} {n} c h e room p q r l =
      let small : head % 256 ≡ 16 * bit t.toggle + 1 = bounded t.toggle head e in
      let body : take count (drop t.place t.held) ≡ left =
      sym (part-within count t.place t.len t.held (omega arith)) ∙ take_all count left (omega (arith, left-length))
      in
      gives
      (over_long at s a t (part_given t.toggle left true) {bytes = (head % 256 ∷ []) ++ left}
      (ap (λ (b : ℕ). b ∷ left) small ∙ sym (long_part_is t.toggle true left (omega (arith, left-length))))
      (put_behind at s a (head % 256 ∷ []) left 1 refl (omega (arith, left-length)) (ap₂ laid p q) (r ∙ ap (splice a' 1) body))
      (l ∙ omega (arith, left-length)) (record { least = omega (arith, l, h); most = omega (arith, l, c) }))
    where
      bounded : (u : Bool) (b : ℕ) → b ≡ 16 * bit u + 1 → b % 256 ≡ 16 * bit u + 1
      bounded true b e = omega (arith, e)
      bounded false b e = omega (arith, e)

-- the record says whether a read is under way, and then its toggle whether the part is given
module _ (at : ℕ) (s a : List ℕ) (u : Bool) where
  abbrev Next : Transfer → Laid → ℕ → Type 0
  Next r x n = Replies at s a r (read_part plain long_form (view r) u) x n

  module _ (t : Transfer) (held : t ≡ record_at s at) {x : Laid} {n : ℕ} where
    -- the record that stands in the state
    by_record : Next t x n → Next (record_at s at) x n
    by_record p =
        (p.0 ∙ ap (λ (y : Transfer). long_replied at s a y (read_part plain long_form (view y) u)) held, p.1 ∙ ap (λ (y : Transfer). reply_length (read_part plain long_form (view y) u)) held, p.2)

    module _ (reads : (is_reading t.direction && counts t) ≡ true) where
      pub box_given : beq t.toggle u ≡ true → Replies at s a t (give_part plain long_form (key_at t.row) (take t.len t.held) t.place t.toggle) x n → Next (record_at s at) x n
      box_given h p = by_record (instead at s a t (part_goes long_form t u reads h) p)

      pub box_dropped : {k : Key} → beq t.toggle u ≡ false → k ≡ key_at t.row → x ≡ put_down at s a zero_record (answer_of (dropped k toggle_code)) → n ≡ 8 → Next (record_at s at) x n
      unfolding long_answer answer_of little
      box_dropped h key p l =
          by_record (instead at s a t (part-drops long_form t u reads h) (over_long at s a t (dropped (key_at t.row) toggle_code) (ap (λ (k : Key). answer_of (dropped k toggle_code)) key) p l (rw l eight_fits)))

    pub box_none : {e : List ℕ} → (is_reading t.direction && counts t) ≡ false → e ≡ answer_of no_transfer → x ≡ put_down at s a zero_record e → n ≡ 8 → Next (record_at s at) x n
    unfolding long_answer answer_of little
    box_none h q p l = by_record (instead at s a t (sym (no_reading t bag552 long_form u h)) (over_long at s a t no_transfer q p (l ∙ sym (ap length q)) (rw l eight_fits)))
