-- What the functions of a line leave in the lent bytes: replies, and requests served. Assumes nothing.
use mathlib.Core.Path.{◌≡◌, ap, ap₂, ◌∙◌}
use mathlib.Core.List.{List}
use Prim.Native.Nat.{ℕ}
use lib.ListN.{length}
use Rattle.order.specs.Talk.{Request, Answer, Pending}
use Rattle.order.specs.Serve.{Reply, over, onwards, keeping, serve}
use Rattle.order.specs.Keep.{speak}
use Rattle.sdo.specs.declared.Key.{Key}
use Rattle.sdo.specs.Eight.{ask_of, answer_of, eight}
use Rattle.transfer.specs.declared.Transfer.{Transfer}
use Rattle.transfer.specs.Records.{zero_record, view, base, lay}
use Rattle.state.specs.State.{state_size, record_at, settled}
use Rattle.line.specs.Gauge.{plain, store_of}
use Rattle.line.specs.Serving.{Laid, laid, put_down, replied, replied_as, told, told_by, spoken_over, message_told, Room, Ready}

-- the line's part of what a function is lent
pub room_of : {at : ℕ} {s a : List ℕ} → length s ≡ state_size → Ready at a → Room at s a
room_of n r = record { inside = rw n r.place; long_enough = r.room }

-- ---- replies

module _ (at : ℕ) (s a : List ℕ) where
  -- a transfer that is over leaves zeros, whatever its record would be laid over
  pub over-replied : (b : Transfer) (t : Answer Key) {x : Laid} {bytes : List ℕ} → bytes ≡ answer_of t → x ≡ put_down at s a zero_record bytes → x ≡ replied at s a b (over plain t)
  unfolding replied_as lay
  over-replied b t e q = q ∙ ap (put_down at s a zero_record) e

  pub onwards-replied : (b next : Transfer) (y : Pending Key) (t : Answer Key) {x : Laid} {bytes : List ℕ} → bytes ≡ answer_of t → next ≡ lay b y → x ≡ put_down at s a next bytes
      → x ≡ replied at s a b (onwards plain y t)
  unfolding replied_as
  onwards-replied b next y t e n q = q ∙ ap₂ (put_down at s a) n e

  -- ---- with the memory, which a reply leaves

  module _ (v m : List ℕ) where
    pub laid-told : (b : Transfer) (r : Reply plain) {s' a' : List ℕ} → laid s' a' ≡ replied at s a b r
        → told v m s' a' ≡ told_by at s a (spoken_over b (keeping plain (store_of v m s) r))
    unfolding replied_as told_by settled
    laid-told b r q = ap (λ (k : Laid). told v m k.state k.answer) q

    pub over-told : (b : Transfer) (t : Answer Key) {s' a' bytes : List ℕ} → bytes ≡ answer_of t → laid s' a' ≡ put_down at s a zero_record bytes
        → told v m s' a' ≡ told_by at s a (spoken_over b (keeping plain (store_of v m s) (over plain t)))
    over-told b t e q = laid-told b (over plain t) (over-replied b t e q)

    -- ---- a message by what it asks

    pub message-asks : (message : List ℕ) (q : Request Key) → ask_of message ≡ q
        → message_told at message v m s a ≡ told_by at s a (spoken_over (base (record_at s at) q) (serve plain eight (store_of v m s) (view (record_at s at)) q))
    unfolding speak
    message-asks message q e =
        ap (λ (r : Request Key). told_by at s a (spoken_over (base (record_at s at) r) (serve plain eight (store_of v m s) (view (record_at s at)) r))) e
