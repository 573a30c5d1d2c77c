-- An SDO by what it says: what it comes to is what the functions promise. Assumes nothing.
use mathlib.Core.Path.{◌≡◌, refl, sym, ap, ◌∙◌}
use mathlib.Core.Bool.{Bool, true, false, cond}
use mathlib.Core.List.{List, []}
use Prim.Native.Nat.{ℕ, ◌-◌}
use native.Mathlib.Omega.{arith}
use lib.Dec.{leb}
use lib.ListN.{length, take, drop, length-drop}
use lib.Seq.{take_all}
use Rattle.order.specs.Talk.{Request, open_read, next_part, send_part, unknown, no_transfer}
use Rattle.order.specs.Serve.{Reply, Served, keeping, read_opening, read_part, write_part, serve}
use Rattle.order.proofs.Answers.{NoRead}
use Rattle.gauge.specs.Whole.{read_checked, read_whole}
use Rattle.sdo.specs.declared.Key.{Key}
use Rattle.sdo.specs.declared.Message.TheVariants.{SendPart, OpenRead, NextPart, Unknown}
use Rattle.std.specs.Prelude.{Some}
use Rattle.sdo.specs.Eight.{heard_of, request_of, request_heard, answer_of}
use Rattle.sdo.specs.Long.{part_bytes, asked_with, ask_long, long_form, long_answer}
use Rattle.sdo.proofs.LongTrip.{long_request}
use Rattle.transfer.specs.Records.{zero_record, zero_record_at, row_of, view, base}
use Rattle.state.specs.State.{record_at, settled}
use Rattle.line.specs.Gauge.{plain, store_of}
use Rattle.line.specs.Serving.{Laid, laid, put_down, replied_as, Told, told, told_by, spoken_as, spoken_over}
use Rattle.line.proofs.Told.{over-told}
use Rattle.outbox.specs.Showing.{SdoLong, long_replied}
use Rattle.outbox.proofs.Reading.{Replies, eight_fits}
use Rattle.inbox.specs.Taking.{long_told, spoken_length, asked_told}
use Rattle.inbox.proofs.Brief.{long_asks, length-asks, write-told, write-length}
use Rattle.post.specs.Delivery.{count_by}

-- the bytes of a part, as the code counts them
part-counted : (used : ℕ) (m : List ℕ) → take (count_by used (length m)) (drop 1 m) ≡ part_bytes (take used (drop 1 m)) m
part-counted used m = go (leb (length m) 8)
  where
    go : (d : Bool) → take (cond d used (length m - 1)) (drop 1 m) ≡ cond d (take used (drop 1 m)) (drop 1 m)
    go true = refl
    go false = take_all (length m - 1) (drop 1 m) (omega (arith, length-drop 1 m))

module _ (at : ℕ) (v b s a m : List ℕ) where
  -- a reply, with the memory that it leaves
  reply_told : (q : Request Key) → ask_long m ≡ q → (r : Reply plain) {s' a' : List ℕ} → serve plain long_form (store_of v b s) (view (record_at s at)) q ≡ keeping plain (store_of v b s) r
      → laid s' a' ≡ long_replied at s a (base (record_at s at) q) r → told v b s' a' ≡ long_told at m v b s a
  unfolding replied_as told_by settled
  reply_told q asks r e p =
      ap (λ (k : Laid). told v b k.state k.answer) p
      ∙ ap (λ (y : Served plain). told_by at s a (spoken_as long_answer (base (record_at s at) q) y)) (sym e)
      ∙ long_asks at v b s a m q asks

  -- ---- parts, reads, and what nobody knows: what is left, and the answer's length

  abbrev Said : Told → ℕ → Type 0
  Said x n = (x ≡ long_told at m v b s a) × (n ≡ spoken_length at m v b s) × SdoLong n

  pub said-part : (u : Bool) (used : ℕ) (last : Bool) {count : ℕ} {x : Told} → heard_of m ≡ Some (SendPart u used last) → count ≡ count_by used (length m)
      → x ≡ told_by at s a (spoken_over (record_at s at) (write_part plain (store_of v b s) (view (record_at s at)) u (take count (drop 1 m)) last)) → Said x 8
  unfolding request_heard request_of asked_with NoRead base serve
  said-part u used last {count} h c q =
      let bytes : take count (drop 1 m) ≡ part_bytes (take used (drop 1 m)) m = ap (λ (n : ℕ). take n (drop 1 m)) c ∙ part-counted used m in
      let r : Request Key = send_part u (part_bytes (take used (drop 1 m)) m) last in
      (q ∙ ap (λ (y : List ℕ). asked_told at (send_part u y last) v b s a) bytes ∙ write-told at v b s a m r (long_request m _ h) tt, write-length at v b s a m r (long_request m _ h) tt, eight_fits)

  -- a read does not look at the block
  pub said_read : (k : Key) {n : ℕ} {s' a' : List ℕ} → heard_of m ≡ Some (OpenRead k)
      → Replies at s a (zero_record_at (row_of k)) (read_opening plain long_form k (read_whole (store_of v [] s) k.index k.sub)) (laid s' a') n → Said (told v b s' a') n
  unfolding request_heard request_of asked_with NoRead base serve read_whole read_checked
  said_read k h p =
      (reply_told (open_read k) (long_request m _ h) (read_opening plain long_form k (read_whole (store_of v [] s) k.index k.sub)) refl p.0, p.1 ∙ length-asks at v b s a m (open_read k) (long_request m _ h), p.2)

  pub said-next : (u : Bool) {n : ℕ} {s' a' : List ℕ} → heard_of m ≡ Some (NextPart u) → Replies at s a (record_at s at) (read_part plain long_form (view (record_at s at)) u) (laid s' a') n
      → Said (told v b s' a') n
  unfolding request_heard request_of asked_with NoRead base serve
  said-next u h p =
      (reply_told (next_part u) (long_request m _ h) (read_part plain long_form (view (record_at s at)) u) refl p.0, p.1 ∙ length-asks at v b s a m (next_part u) (long_request m _ h), p.2)

  pub said-unknown : {s' a' bytes : List ℕ} → heard_of m ≡ Some Unknown → bytes ≡ answer_of no_transfer → laid s' a' ≡ put_down at s a zero_record bytes → Said (told v b s' a') 8
  unfolding request_heard request_of asked_with NoRead base serve
  said-unknown h e q =
      (over-told at s a v b zero_record no_transfer e q ∙ write-told at v b s a m unknown (long_request m _ h) tt, write-length at v b s a m unknown (long_request m _ h) tt, eight_fits)
