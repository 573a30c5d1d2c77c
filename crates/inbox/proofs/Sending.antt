-- Parts of writes by cases, as the code takes them: each law takes what the calls ensure. Assumes nothing.
use mathlib.Core.Path.{◌≡◌, refl, ap, ◌∙◌}
use mathlib.Core.Bool.{Bool, true, false, not}
use mathlib.Core.List.{List, ◌++◌}
use Prim.Native.Nat.{ℕ, ◌+◌, ◌<◌, ◌≤◌}
use native.Mathlib.Omega.{arith}
use lib.ListN.{length, take}
use borrow.Author.Tests.{lt-ltb, le-ltb}
use Rattle.wire.specs.Splice.{splice}
use Rattle.order.specs.Talk.{part_taken, refused, silent}
use Rattle.order.specs.Gauge.{too_long, too_short, by_length, judged}
use Rattle.order.specs.Serve.{over, keeping, take_more, conclude, take_part}
use Rattle.sdo.specs.declared.Key.{Key}
use Rattle.sdo.specs.Eight.{answer_of}
use Rattle.transfer.specs.declared.Transfer.{Transfer}
use Rattle.transfer.specs.Records.{zero_record, key_at}
use Rattle.transfer.specs.Turns.{grown}
use Rattle.transfer.proofs.RecordLaws.{sent-length}
use Rattle.state.specs.State.{record_bytes}
use Rattle.line.specs.Gauge.{plain, store_of}
use Rattle.line.specs.Serving.{laid, put_down, Told, told, told_by, spoken_over}
use Rattle.line.proofs.Told.{laid-told, over-told}
use Rattle.line.proofs.Writing.{let_through, last-right, more_taken}

module _ (at : ℕ) (v b s a : List ℕ) (t : Transfer) (bytes : List ℕ) (inside : t.place ≤ length t.held) {count : ℕ} (long : length bytes ≡ count) where
  abbrev part-told : Bool → Told
  part-told last =
      told_by at s a (spoken_over t (take_part plain (store_of v b s) (key_at t.row) t.len t.len (take t.place t.held ++ bytes) (not t.toggle) last (part_taken t.toggle)))

  abbrev refused-told : ℕ → Told
  refused-told code = told_by at s a (spoken_over t (keeping plain (store_of v b s) (over plain (refused (key_at t.row) code))))

  sent-count : length (take t.place t.held ++ bytes) ≡ t.place + count
  sent-count = sent-length t bytes inside ∙ ap (λ (n : ℕ). t.place + n) long

  refused_is : (code : ℕ) {k : Key} {s' a' : List ℕ} → k ≡ key_at t.row → laid s' a' ≡ put_down at s a zero_record (answer_of (refused k code)) → told v b s' a' ≡ refused-told code
  refused_is code key q = over-told at s a v b t (refused (key_at t.row) code) (ap (λ (k : Key). answer_of (refused k code)) key) q

  -- more bytes than the length are too many, last part or not
  over-length : t.len < t.place + count → (last : Bool) → refused-told too_long ≡ part-told last
  unfolding take_part take_more conclude judged by_length
  over-length h true = rw (sent-count, lt-ltb t.len (t.place + count) h)
  over-length h false = rw (sent-count, lt-ltb t.len (t.place + count) h)

  pub part_long : (last : Bool) {k : Key} {s' a' : List ℕ} → t.len < t.place + count → k ≡ key_at t.row → laid s' a' ≡ put_down at s a zero_record (answer_of (refused k too_long))
      → told v b s' a' ≡ part-told last
  part_long last h key q = refused_is too_long key q ∙ over-length h last

  -- a last part that ends short
  under_length : t.place + count < t.len → refused-told too_short ≡ part-told true
  unfolding take_part conclude judged by_length
  under_length h = rw (sent-count, le-ltb t.len (t.place + count) (omega arith), lt-ltb (t.place + count) t.len h)

  module _ {last : Bool} where
    pub part-short : {k : Key} {s' a' : List ℕ} → t.place + count < t.len → last ≡ true → k ≡ key_at t.row → laid s' a' ≡ put_down at s a zero_record (answer_of (refused k too_short))
        → told v b s' a' ≡ part-told last
    part-short h l key q = rw l (refused_is too_short key q ∙ under_length h)

    -- a last part that ends with the length: the room has the answer, and the write is concluded
    pub part-last : {x : Told} {a' eight held : List ℕ} → t.place + count ≤ t.len → t.len ≤ t.place + count → last ≡ true → eight ≡ answer_of (part_taken t.toggle) → a' ≡ splice a 0 eight
        → held ≡ take t.place t.held ++ bytes
        → x ≡ told_by at s a' (spoken_over zero_record (conclude plain (store_of v b s) (key_at t.row) silent (plain.commit (store_of v b s) (key_at t.row) held)))
        → x ≡ part-told last
    part-last fits h l e r w q = rw l (last-right at v b s a t bytes inside long refl (let_through t.len t.len (t.place + count) (λ (c : ℕ). false) true h fits) e r w q)

    -- another part follows
    pub part_more : {s' a' eight : List ℕ} → t.place + count ≤ t.len → last ≡ false → s' ≡ splice s at (record_bytes (grown t bytes)) → a' ≡ splice a 0 eight → eight ≡ answer_of (part_taken t.toggle)
        → told v b s' a' ≡ part-told last
    unfolding take_part
    part_more fits l p r e = rw l (laid-told at s a v b t _ (more_taken at s a t bytes inside long fits p r e))
