-- Replies in the lent bytes, and the reads by cases, as the code takes them: each law takes what the calls ensure. Assumes nothing.
use mathlib.Core.Path.{◌≡◌, refl, sym, ap, ◌∙◌}
use mathlib.Core.Bool.{Bool, true, false, ◌&&◌, beq}
use mathlib.Core.List.{List, []}
use Prim.Native.Nat.{ℕ, ◌+◌, ◌<◌, ◌≤◌}
use native.Mathlib.Omega.{arith}
use lib.ListN.{length, take, drop}
use lib.Seq.{take_all, length-take-le}
use borrow.Author.Tests.{le-leb, lt-leb}
use Rattle.wire.specs.Splice.{splice}
use Rattle.order.specs.Talk.{part_given, refused, dropped, no_transfer, value}
use Rattle.order.specs.Talk.{opened}
use Rattle.order.specs.Serve.{Form, toggle_code, Reply, over, read_opening, give_part, read_part}
use Rattle.table.specs.Row.{WO, CARD}
use Rattle.table.specs.Rows.{at_row, row_count}
use Rattle.table.specs.Find.{find_row}
use Rattle.table.specs.Codes.{write_only, code_of}
use Rattle.gate.specs.Gates.{read_gate, way_of}
use Rattle.std.specs.Prelude.{Ok, Err}
use Rattle.table.specs.declared.code.AbortCode.{AbortCode}
use Rattle.gate.proofs.GateLaws.{gate-opened}
use Rattle.gauge.specs.Whole.{value_of, read_whole}
use Rattle.gauge.proofs.ByGate.{read_through, read_by_gate}
use Rattle.gauge.proofs.ValueLaws.{value-length, stored-value}
use Rattle.sdo.specs.declared.Key.{Key}
use Rattle.sdo.specs.Eight.{answer_of, short, eight}
use Rattle.transfer.specs.declared.Direction.TheVariants.{Reads}
use Rattle.transfer.specs.declared.Transfer.{Transfer}
use Rattle.transfer.specs.Records.{zero_record, zero_record_at, key_at, row_of, view, counts}
use Rattle.transfer.specs.Turns.{is_reading, filled, opened_record, turned}
use Rattle.transfer.proofs.RecordLaws.{found_number, view-reading, no_reading, lay-reading, lay-opened, filled-value, part-within}
use Rattle.state.specs.State.{record_at, record_bytes}
use Rattle.line.specs.Gauge.{bag552, plain, store_of}
use Rattle.line.specs.Serving.{Laid, laid, put_down, replied}
use Rattle.line.proofs.Told.{over-replied, onwards-replied}
use Rattle.line.proofs.Doors.{leads, stops}

-- ---- replies in the lent bytes

module _ (at : ℕ) (s a : List ℕ) where
  pub both_put : (t : Transfer) (e : List ℕ) {s' a' : List ℕ} → s' ≡ splice s at (record_bytes t) → a' ≡ splice a 0 e → laid s' a' ≡ put_down at s a t e
  unfolding put_down
  both_put t e p q = rw (p, q)

  pub dropped_put : (k : Key) {x : Laid} {e : List ℕ} → e ≡ answer_of (refused k toggle_code) → x ≡ put_down at s a zero_record e → x ≡ put_down at s a zero_record (answer_of (dropped k toggle_code))
  unfolding answer_of
  dropped_put k q p = p ∙ ap (put_down at s a zero_record) q

-- ---- parts

module _ (at : ℕ) (s a : List ℕ) (t : Transfer) (long : length t.held ≡ 64) (most : t.len ≤ 64) {x : Laid} {e : List ℕ} where
  pub given_last : t.len ≤ t.place + 7 → e ≡ answer_of (part_given t.toggle (take 7 (drop t.place (take t.len t.held))) true)
      → x ≡ put_down at s a zero_record e → x ≡ replied at s a t (give_part plain eight (key_at t.row) (take t.len t.held) t.place t.toggle)
  unfolding give_part eight
  given_last h q p =
      let n : length (take t.len t.held) ≡ t.len = length-take-le t.len t.held (omega arith) in
      rw (n, le-leb t.len (t.place + 7) h) (over-replied at s a t _ q p)

  pub given_more : {n : Transfer} → t.place + 7 < t.len → n ≡ turned t 7 → e ≡ answer_of (part_given t.toggle (take 7 (drop t.place t.held)) false)
      → x ≡ put_down at s a n e → x ≡ replied at s a t (give_part plain eight (key_at t.row) (take t.len t.held) t.place t.toggle)
  unfolding give_part eight
  given_more h i q p =
      let n : length (take t.len t.held) ≡ t.len = length-take-le t.len t.held (omega arith) in
      rw (n, lt-leb t.len (t.place + 7) h)
      (onwards-replied at s a t _ _ _ (q ∙ ap (λ (l : List ℕ). answer_of (part_given t.toggle l false)) (sym (part-within 7 t.place t.len t.held (omega arith)))) (i ∙ sym (lay-reading t 7 (omega arith))) p)

-- the record says whether a read is under way, and then its toggle whether the part is given, in any form
module _ (F : Form) (t : Transfer) (u : Bool) (reads : (is_reading t.direction && counts t) ≡ true) where
  pub part_goes : beq t.toggle u ≡ true → give_part plain F (key_at t.row) (take t.len t.held) t.place t.toggle ≡ read_part plain F (view t) u
  unfolding read_part
  part_goes h = sym (rw (view-reading t reads, h))

  pub part-drops : beq t.toggle u ≡ false → over plain (dropped (key_at t.row) toggle_code) ≡ read_part plain F (view t) u
  unfolding read_part
  part-drops h = sym (rw (view-reading t reads, h))

module _ (at : ℕ) (s a : List ℕ) (u : Bool) where
  abbrev next : Transfer → Laid
  next r = replied at s a r (read_part plain eight (view r) u)

module _ (at : ℕ) (s a : List ℕ) (t : Transfer) (u : Bool) (held : t ≡ record_at s at) {x : Laid} where
  module _ (reads : (is_reading t.direction && counts t) ≡ true) where
    pub next_given : beq t.toggle u ≡ true → x ≡ replied at s a t (give_part plain eight (key_at t.row) (take t.len t.held) t.place t.toggle) → x ≡ next at s a u (record_at s at)
    next_given h p = p ∙ ap (replied at s a t) (part_goes eight t u reads h) ∙ ap (next at s a u) held

    pub next-dropped : {k : Key} → beq t.toggle u ≡ false → k ≡ key_at t.row → x ≡ put_down at s a zero_record (answer_of (dropped k toggle_code)) → x ≡ next at s a u (record_at s at)
    next-dropped h key p =
        over-replied at s a t _ (ap (λ (k : Key). answer_of (dropped k toggle_code)) key) p ∙ ap (replied at s a t) (part-drops eight t u reads h) ∙ ap (next at s a u) held

  pub next_none : {e : List ℕ} → (is_reading t.direction && counts t) ≡ false → e ≡ answer_of no_transfer → x ≡ put_down at s a zero_record e → x ≡ next at s a u (record_at s at)
  next_none h q p = over-replied at s a t no_transfer q p ∙ ap (replied at s a t) (sym (no_reading t bag552 eight u h)) ∙ ap (next at s a u) held

-- ---- openings

-- a value of up to four bytes is told at once
module _ (values : List ℕ) (row : ℕ) (there : row < row_count) (long : length values ≡ 1024) {len : ℕ} (el : len ≡ (at_row row).len) where
  whole_length : length (value_of (at_row row) values) ≡ len
  whole_length = value-length row there values long ∙ sym el

  pub shown-whole : {held : List ℕ} → held ≡ filled (value_of (at_row row) values) → take len held ≡ value_of (at_row row) values
  shown-whole e = ap (take len) e ∙ filled-value (value_of (at_row row) values) len whole_length

  pub shown-part : {part : List ℕ} → (at_row row).kind < CARD → part ≡ take len (drop (at_row row).place values) → take len part ≡ value_of (at_row row) values
  shown-part l e =
      let v = stored-value row there values l ∙ ap (λ (n : ℕ). take n (drop (at_row row).place values)) (sym el) in
      ap (take len) (e ∙ sym v) ∙ take_all len (value_of (at_row row) values) (omega (arith, whole_length))

  module _ (at : ℕ) (s a : List ℕ) (k : Key) {x : Laid} {e : List ℕ} where
    pub read_short : short len ≡ true → e ≡ answer_of (opened k len (value_of (at_row row) values) true) → x ≡ put_down at s a zero_record e
        → x ≡ replied at s a (zero_record_at row) (read_opening plain eight k (value (value_of (at_row row) values)))
    unfolding read_opening eight
    read_short h q p =
        rw (whole_length, h, take_all len (value_of (at_row row) values) (omega (arith, whole_length))) (over-replied at s a (zero_record_at row) _ q p)

    pub read_long : {held : List ℕ} {n : Transfer} → short len ≡ false → held ≡ filled (value_of (at_row row) values) → n ≡ opened_record Reads row held len 0
        → e ≡ answer_of (opened k len [] false) → x ≡ put_down at s a n e → x ≡ replied at s a (zero_record_at row) (read_opening plain eight k (value (value_of (at_row row) values)))
    unfolding read_opening eight
    read_long h i j q p =
        rw (whole_length, h)
        (onwards-replied at s a (zero_record_at row) _ _ _ q (j ∙ rw (i, ← whole_length) (sym (lay-opened row k (value_of (at_row row) values)))) p)

-- the opening of a read, in any form
abbrev pub opening : Form → List ℕ → List ℕ → Key → Reply plain
opening F v s k = read_opening plain F k (read_whole (store_of v [] s) k.index k.sub)

-- it goes through the gate of its key
module _ (F : Form) (v s : List ℕ) (k : Key) where
  module _ (row : ℕ) (way : way_of (Ok row) ≡ read_gate (find_row k.index k.sub)) where
    pub way_row : row_of k ≡ row
    way_row = found_number k row (gate-opened WO write_only k.index k.sub row (find_row k.index k.sub) refl (leads WO write_only k row way)).found

    pub way_opens : read_opening plain F k (value (value_of (at_row row) v)) ≡ opening F v s k
    unfolding read_through
    way_opens = sym (rw (read_by_gate k.index k.sub (store_of v [] s), leads WO write_only k row way))

  pub way_stops : (abort : AbortCode) → way_of (Err abort) ≡ read_gate (find_row k.index k.sub) → over plain (refused k (code_of abort)) ≡ opening F v s k
  unfolding read_opening read_through
  way_stops abort way = sym (rw (read_by_gate k.index k.sub (store_of v [] s), stops WO write_only k abort way))

module _ (at : ℕ) (v s a : List ℕ) (k : Key) {x : Laid} where
  pub read_led : (row : ℕ) → way_of (Ok row) ≡ read_gate (find_row k.index k.sub) → x ≡ replied at s a (zero_record_at row) (read_opening plain eight k (value (value_of (at_row row) v)))
      → x ≡ replied at s a (zero_record_at (row_of k)) (opening eight v s k)
  read_led row way p = rw (way_row eight v s k row way) (p ∙ ap (replied at s a (zero_record_at row)) (way_opens eight v s k row way))

  pub read_stopped : (abort : AbortCode) → way_of (Err abort) ≡ read_gate (find_row k.index k.sub) → x ≡ put_down at s a zero_record (answer_of (refused k (code_of abort)))
      → x ≡ replied at s a (zero_record_at (row_of k)) (opening eight v s k)
  read_stopped abort way p =
      over-replied at s a (zero_record_at (row_of k)) (refused k (code_of abort)) refl p ∙ ap (replied at s a (zero_record_at (row_of k))) (way_stops eight v s k abort way)
