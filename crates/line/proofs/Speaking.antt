-- A message by what it says: what it comes to is what the functions promise. Assumes nothing.
use mathlib.Core.Path.{◌≡◌, refl, sym, ap, ◌∙◌}
use mathlib.Core.Bool.{Bool}
use mathlib.Core.List.{List, []}
use mathlib.Core.Option.{none, some}
use Prim.Native.Nat.{ℕ}
use lib.ListN.{take, drop}
use borrow.Author.Tests.{ne_eqb}
use Rattle.order.specs.Talk.{Said, announced, unsaid, own, open_read, next_part, expedited, open_write, send_part, unknown, write_opened, refused, no_transfer, Sizes, sizes, closed}
use Rattle.order.specs.Gauge.{narrow, narrowed, judged_by, write_whole}
use Rattle.order.specs.Serve.{Served, keeping, read_opening, read_part, write_opening, conclude, write_part, serve}
use Rattle.table.specs.Row.{RO, smallest, largest}
use Rattle.table.specs.Rows.{at_row}
use Rattle.table.specs.Codes.{read_only, code_of}
use Rattle.table.specs.Find.{At, find_row}
use Rattle.table.proofs.Table.{find_at}
use Rattle.std.specs.Prelude.{Some, Ok, Err}
use Rattle.table.specs.declared.code.AbortCode.{AbortCode}
use Rattle.gate.specs.Gates.{gate, write_gate, way_of}
use Rattle.gate.proofs.GateLaws.{gate-opened}
use Rattle.gauge.specs.Whole.{read_checked, read_whole, write_sizes}
use Rattle.gauge.proofs.ByGate.{sizes_of, sizes_by_gate}
use Rattle.sdo.specs.declared.Key.{Key}
use Rattle.sdo.specs.declared.Opening.{Opening}
use Rattle.sdo.specs.declared.Opening.TheVariants.{Value, Own, Announced, Unsaid}
use Rattle.sdo.specs.declared.Message.TheVariants.{SendPart, OpenWrite, OpenRead, NextPart, Unknown}
use Rattle.sdo.specs.Eight.{answer_of, heard_of, request_of, request_heard, eight}
use Rattle.sdo.proofs.HeardLaws.{ask_is}
use Rattle.transfer.specs.declared.Transfer.{Transfer}
use Rattle.transfer.specs.Records.{zero_record, zero_record_at, row_of, view, base}
use Rattle.transfer.proofs.RecordLaws.{found_number}
use Rattle.state.specs.State.{record_at}
use Rattle.line.specs.Gauge.{plain, store_of}
use Rattle.line.specs.Serving.{laid, put_down, replied, Told, told, told_by, spoken_over, message_told, Writable}
use Rattle.line.proofs.Told.{laid-told, over-told, message-asks}
use Rattle.line.proofs.Doors.{leads, stops}
use Rattle.line.proofs.Writing.{smallest_forgotten}

-- ---- what the gate says of an entry that is written

module _ (k : Key) where
  -- it leads to the entry's row
  pub write_led : (row : ℕ) → way_of (Ok row) ≡ write_gate (find_row k.index k.sub) → Writable row × (find_row k.index k.sub ≡ At row)
  write_led row way =
      let o = gate-opened RO read_only k.index k.sub row (find_row k.index k.sub) refl (leads RO read_only k row way) in
      (record { there = (find_at k.index k.sub row o.found).there; open_to_writes = o.allowed }, o.found)

  pub shut_sizes : (abort : AbortCode) → way_of (Err abort) ≡ write_gate (find_row k.index k.sub) → write_sizes k.index k.sub ≡ closed (code_of abort)
  unfolding sizes_of
  shut_sizes abort way = sizes_by_gate k.index k.sub ∙ ap sizes_of (stops RO read_only k abort way)

-- ---- a message

module _ (at : ℕ) (v b s a m : List ℕ) where
  abbrev served : Transfer → Served plain → Told
  served c z = told_by at s a (spoken_over c z)

  pub said-part : (u : Bool) (n : ℕ) (last : Bool) {x : Told} → heard_of m ≡ Some (SendPart u n last)
      → x ≡ served (record_at s at) (write_part plain (store_of v b s) (view (record_at s at)) u (take n (drop 1 m)) last) → x ≡ message_told at m v b s a
  unfolding request_heard request_of base serve
  said-part u n last h q = q ∙ sym (message-asks at s a v b m (send_part u (take n (drop 1 m)) last) (ask_is m _ h))

  pub said-next : (u : Bool) {s' a' : List ℕ} → heard_of m ≡ Some (NextPart u) → laid s' a' ≡ replied at s a (record_at s at) (read_part plain eight (view (record_at s at)) u)
      → told v b s' a' ≡ message_told at m v b s a
  unfolding request_heard request_of base serve
  said-next u h q = laid-told at s a v b (record_at s at) _ q ∙ sym (message-asks at s a v b m (next_part u) (ask_is m _ h))

  -- a read does not look at the block
  pub said_read : (k : Key) {s' a' : List ℕ} → heard_of m ≡ Some (OpenRead k)
      → laid s' a' ≡ replied at s a (zero_record_at (row_of k)) (read_opening plain eight k (read_whole (store_of v [] s) k.index k.sub)) → told v b s' a' ≡ message_told at m v b s a
  unfolding request_heard request_of base serve read_whole read_checked
  said_read k h q = laid-told at s a v b (zero_record_at (row_of k)) _ q ∙ sym (message-asks at s a v b m (open_read k) (ask_is m _ h))

  pub said-unknown : {s' a' bytes : List ℕ} → heard_of m ≡ Some Unknown → bytes ≡ answer_of no_transfer → laid s' a' ≡ put_down at s a zero_record bytes
      → told v b s' a' ≡ message_told at m v b s a
  unfolding request_heard request_of base serve
  said-unknown h e q = over-told at s a v b zero_record no_transfer e q ∙ sym (message-asks at s a v b m unknown (ask_is m _ h))

  -- ---- the opening of a write, by what the table says of its entry

  module _ (k : Key) where
    abbrev value_opening : Said → List ℕ → Sizes → Told
    value_opening said bytes z = served zero_record (conclude plain (store_of v b s) k (write_opened k) (judged_by plain (store_of v b s) k said bytes (narrow z said)))

    abbrev parts_told : Said → Sizes → Told
    parts_told said z = served (zero_record_at (row_of k)) (keeping plain (store_of v b s) (write_opening plain k [] (narrow z said)))

    abbrev opening_told : Opening → Sizes → Told
    opening_told (Value n) z = value_opening (announced n) (take n (drop 4 m)) z
    opening_told Own z = value_opening own (take 4 (drop 4 m)) z
    opening_told (Announced n) z = parts_told (announced n) z
    opening_told Unsaid z = parts_told unsaid z

    opening_asks : (o : Opening) → heard_of m ≡ Some (OpenWrite k o) → message_told at m v b s a ≡ opening_told o (write_sizes k.index k.sub)
    unfolding request_heard request_of base serve write_whole
    opening_asks (Value n) h = message-asks at s a v b m (expedited k (announced n) (take n (drop 4 m))) (ask_is m _ h)
    opening_asks Own h = message-asks at s a v b m (expedited k own (take 4 (drop 4 m))) (ask_is m _ h)
    opening_asks (Announced n) h = message-asks at s a v b m (open_write k (some n) []) (ask_is m _ h)
    opening_asks Unsaid h = message-asks at s a v b m (open_write k none []) (ask_is m _ h)

    by_table : (o : Opening) (z : Sizes) {x : Told} → heard_of m ≡ Some (OpenWrite k o) → write_sizes k.index k.sub ≡ z → x ≡ opening_told o z → x ≡ message_told at m v b s a
    by_table o z h e q = q ∙ sym (opening_asks o h ∙ ap (opening_told o) e)

    -- there is no way to a row
    pub said_shut : (o : Opening) (abort : AbortCode) {s' a' : List ℕ} → heard_of m ≡ Some (OpenWrite k o) → way_of (Err abort) ≡ write_gate (find_row k.index k.sub)
        → laid s' a' ≡ put_down at s a zero_record (answer_of (refused k (code_of abort))) → told v b s' a' ≡ message_told at m v b s a
    unfolding narrow judged_by conclude write_opening
    said_shut o abort {s'} {a'} h way q = by_table o (closed (code_of abort)) h (shut_sizes k abort way) (go o)
      where
        go : (o : Opening) → told v b s' a' ≡ opening_told o (closed (code_of abort))
        go (Value n) = over-told at s a v b zero_record (refused k (code_of abort)) refl q
        go Own = over-told at s a v b zero_record (refused k (code_of abort)) refl q
        go (Announced n) = over-told at s a v b (zero_record_at (row_of k)) (refused k (code_of abort)) refl q
        go Unsaid = over-told at s a v b (zero_record_at (row_of k)) (refused k (code_of abort)) refl q

    -- the entry's row may be written
    module _ (row : ℕ) (w : Writable row) (found : find_row k.index k.sub ≡ At row) where
      abbrev low : ℕ
      low = smallest (at_row row)

      abbrev high : ℕ
      high = largest (at_row row)

      pub row-sizes : write_sizes k.index k.sub ≡ sizes low high
      unfolding gate sizes_of
      row-sizes = sizes_by_gate k.index k.sub ∙ rw (found, ne_eqb (at_row row).access RO w.open_to_writes)

      pub said-value : (n : ℕ) {x : Told} → heard_of m ≡ Some (OpenWrite k (Value n)) → x ≡ served zero_record (conclude plain (store_of v b s) k (write_opened k) (judged_by plain (store_of v b s) k (announced n) (take n (drop 4 m)) (narrowed low high (announced n))))
          → x ≡ message_told at m v b s a
      unfolding narrow
      said-value n e q = by_table (Value n) (sizes low high) e row-sizes q

      pub said-own : {x : Told} → heard_of m ≡ Some (OpenWrite k Own) → x ≡ served zero_record (conclude plain (store_of v b s) k (write_opened k) (judged_by plain (store_of v b s) k own (take 4 (drop 4 m)) (sizes high high)))
          → x ≡ message_told at m v b s a
      unfolding narrow narrowed
      said-own e q = by_table Own (sizes low high) e row-sizes q

      row_parts : (z : Sizes) {s' a' : List ℕ} → laid s' a' ≡ replied at s a (zero_record_at row) (write_opening plain k [] z)
          → told v b s' a' ≡ served (zero_record_at (row_of k)) (keeping plain (store_of v b s) (write_opening plain k [] z))
      row_parts z q = rw (found_number k row found) (laid-told at s a v b (zero_record_at row) _ q)

      pub said-announced : (n : ℕ) {s' a' : List ℕ} → heard_of m ≡ Some (OpenWrite k (Announced n))
          → laid s' a' ≡ replied at s a (zero_record_at row) (write_opening plain k [] (narrowed low high (announced n))) → told v b s' a' ≡ message_told at m v b s a
      unfolding narrow
      said-announced n e q = by_table (Announced n) (sizes low high) e row-sizes (row_parts _ q)

      pub said-unsaid : {s' a' : List ℕ} → heard_of m ≡ Some (OpenWrite k Unsaid)
          → laid s' a' ≡ replied at s a (zero_record_at row) (write_opening plain k [] (sizes high high)) → told v b s' a' ≡ message_told at m v b s a
      unfolding narrow narrowed
      said-unsaid e q = by_table Unsaid (sizes low high) e row-sizes (row_parts _ (q ∙ smallest_forgotten at s a k row [] low high))
