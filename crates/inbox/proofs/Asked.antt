-- An opening of a write by what its SDO says: what it comes to is what the functions promise. Assumes nothing.
use mathlib.Core.Path.{◌≡◌, ◌∙◌}
use mathlib.Core.Bool.{Bool, true, false, cond}
use mathlib.Core.List.{List}
use mathlib.Core.Option.{none, some}
use Prim.Native.Nat.{ℕ}
use lib.Dec.{leb}
use lib.ListN.{length, take, drop}
use Rattle.order.specs.Talk.{announced, own, expedited, open_write, refused}
use Rattle.order.proofs.Answers.{NoRead}
use Rattle.table.specs.Find.{find_row}
use Rattle.std.specs.Prelude.{Some, None, Err}
use Rattle.table.specs.Codes.{code_of}
use Rattle.table.specs.declared.code.AbortCode.{AbortCode}
use Rattle.gate.specs.Gates.{write_gate, way_of}
use Rattle.sdo.specs.declared.Key.{Key}
use Rattle.sdo.specs.declared.Opening.{Opening}
use Rattle.sdo.specs.declared.Opening.TheVariants.{Value, Own, Announced, Unsaid}
use Rattle.sdo.specs.declared.Message.TheVariants.{OpenWrite}
use Rattle.sdo.specs.Eight.{heard_of, request_of, request_heard, answer_of}
use Rattle.sdo.specs.Long.{opening_with, asked_with}
use Rattle.sdo.proofs.LongTrip.{long_request}
use Rattle.transfer.specs.Records.{zero_record}
use Rattle.line.specs.Serving.{laid, put_down, Told, told}
use Rattle.inbox.specs.Taking.{long_told, spoken_length, asked_told, opening_asked}
use Rattle.inbox.proofs.Brief.{write-told, write-length}
use Rattle.inbox.proofs.Opening.{value_shut, opening_shut}

opening_writes : (k : Key) (n : ℕ) (bytes : List ℕ) → NoRead (opening_with k n bytes)
unfolding opening_with NoRead
opening_writes k n bytes = go (leb n (length bytes))
  where
    go : (d : Bool) → NoRead (cond d (expedited k (announced n) bytes) (open_write k (some n) bytes))
    go true = tt
    go false = tt

module _ (at : ℕ) (v b s a m : List ℕ) where
  module _ (k : Key) {x : Told} where
    pub said-value : (n : ℕ) → heard_of m ≡ Some (OpenWrite k (Value n)) → x ≡ asked_told at (expedited k (announced n) (take n (drop 4 m))) v b s a → x ≡ long_told at m v b s a
    unfolding request_heard request_of asked_with NoRead
    said-value n h q = q ∙ write-told at v b s a m (expedited k (announced n) (take n (drop 4 m))) (long_request m _ h) tt

    pub said-own : heard_of m ≡ Some (OpenWrite k Own) → x ≡ asked_told at (expedited k own (take 4 (drop 4 m))) v b s a → x ≡ long_told at m v b s a
    unfolding request_heard request_of asked_with NoRead
    said-own h q = q ∙ write-told at v b s a m (expedited k own (take 4 (drop 4 m))) (long_request m _ h) tt

    pub said-announced : (n : ℕ) → heard_of m ≡ Some (OpenWrite k (Announced n)) → x ≡ asked_told at (opening_asked k (Some n) (drop 8 m)) v b s a → x ≡ long_told at m v b s a
    unfolding request_heard request_of asked_with NoRead opening_asked
    said-announced n h q = q ∙ write-told at v b s a m (opening_with k n (drop 8 m)) (long_request m _ h) (opening_writes k n (drop 8 m))

    pub said-unsaid : heard_of m ≡ Some (OpenWrite k Unsaid) → x ≡ asked_told at (opening_asked k None (drop 8 m)) v b s a → x ≡ long_told at m v b s a
    unfolding request_heard request_of asked_with NoRead opening_asked
    said-unsaid h q = q ∙ write-told at v b s a m (open_write k none (drop 8 m)) (long_request m _ h) tt

  -- there is no way to a row
  pub said_shut : (k : Key) (o : Opening) (abort : AbortCode) {s' a' : List ℕ} → heard_of m ≡ Some (OpenWrite k o) → way_of (Err abort) ≡ write_gate (find_row k.index k.sub)
      → laid s' a' ≡ put_down at s a zero_record (answer_of (refused k (code_of abort))) → told v b s' a' ≡ long_told at m v b s a
  said_shut k (Value n) abort h way q = said-value k n h (value_shut at v b s a k abort way q (announced n) (take n (drop 4 m)))
  said_shut k Own abort h way q = said-own k h (value_shut at v b s a k abort way q own (take 4 (drop 4 m)))
  said_shut k (Announced n) abort h way q = said-announced k n h (opening_shut at v b s a k abort way q (Some n) (drop 8 m))
  said_shut k Unsaid abort h way q = said-unsaid k h (opening_shut at v b s a k abort way q None (drop 8 m))

  -- the answer to an opening of a write is eight bytes
  pub opening_length : (k : Key) (o : Opening) → heard_of m ≡ Some (OpenWrite k o) → 8 ≡ spoken_length at m v b s
  unfolding request_heard request_of asked_with NoRead
  opening_length k (Value n) h = write-length at v b s a m (expedited k (announced n) (take n (drop 4 m))) (long_request m _ h) tt
  opening_length k Own h = write-length at v b s a m (expedited k own (take 4 (drop 4 m))) (long_request m _ h) tt
  opening_length k (Announced n) h = write-length at v b s a m (opening_with k n (drop 8 m)) (long_request m _ h) (opening_writes k n (drop 8 m))
  opening_length k Unsaid h = write-length at v b s a m (open_write k none (drop 8 m)) (long_request m _ h) tt
