-- The answer's SDO, put into its mailbox. Assumes nothing.
use mathlib.Core.Path.{◌≡◌, sym, ap, ◌∙◌}
use mathlib.Core.List.{List, ◌++◌}
use Prim.Native.Nat.{ℕ, ◌+◌, ◌≤◌}
use native.Mathlib.Omega.{arith}
use lib.ListN.{length, take, drop}
use lib.Seq.{drop_at, drop-drop, take-append-le, length-take-le}
use borrow.Author.Tests.{le-leb}
use Rattle.wire.specs.Splice.{splice}
use Rattle.wire.proofs.SpliceLaws.{part_length, part_same}
use Rattle.order.specs.Talk.{Answer}
use Rattle.order.specs.Serve.{serve}
use Rattle.order.specs.Keep.{speak}
use Rattle.sdo.specs.declared.Key.{Key}
use Rattle.sdo.specs.Long.{ask_long, long_form, long_answer}
use Rattle.mailbox.specs.declared.Head.{Head}
use Rattle.mailbox.specs.Mail.{mailbox_size, counter_in, service_of, mail_answer}
use Rattle.mailbox.specs.Sealing.{sealed}
use Rattle.mailbox.proofs.MailTrip.{mailed_full, sealed-answer}
use Rattle.transfer.specs.Records.{view}
use Rattle.state.specs.State.{record_at}
use Rattle.line.specs.Gauge.{plain, store_of}
use Rattle.line.specs.Serving.{Told, told, told_by}
use Rattle.outbox.specs.Showing.{SdoLong}
use Rattle.inbox.specs.Taking.{long_told, spoken_length}
use Rattle.post.specs.Delivery.{mail_told}

-- the room for the SDO in the room for a mailbox, and the mailbox with it back in its place
abbrev inner : List ℕ → List ℕ
inner a = take 120 (drop 8 a)

abbrev outer : List ℕ → List ℕ → List ℕ
outer a r = take 8 a ++ (r ++ drop 120 (drop 8 a))

module _ (a : List ℕ) (long : mailbox_size ≤ length a) where
  pub inner_long : length (inner a) ≡ 120
  inner_long = part_length a 8 120 (omega arith)

  module _ (r : List ℕ) (kept : length r ≡ length (inner a)) where
    behind_head : drop 8 (outer a r) ≡ r ++ drop 120 (drop 8 a)
    behind_head = drop_at (take 8 a) (r ++ drop 120 (drop 8 a)) 8 (length-take-le 8 a (omega arith))

    -- what is written over all of it leaves nothing of what stood there
    over-all : (x : List ℕ) → length x ≡ 128 → splice (outer a r) 0 x ≡ splice a 0 x
    unfolding splice
    over-all x n = rw n (ap (λ (y : List ℕ). x ++ y) (rest_same))
      where
        rest_same : drop (0 + 128) (outer a r) ≡ drop (0 + 128) a
        rest_same =
            sym (drop-drop 120 8 (outer a r))
            ∙ ap (drop 120) behind_head
            ∙ drop_at r (drop 120 (drop 8 a)) 120 (kept ∙ inner_long)
            ∙ drop-drop 120 8 a

-- what the SDO's answer leaves, and then its mailbox
module _ (at : ℕ) (h : Head) (m v b s a : List ℕ) (long : mailbox_size ≤ length a) where
  abbrev told_sdo : Told
  told_sdo = long_told at m v b s (inner a)

  abbrev answer : Answer Key
  answer = (serve plain long_form (store_of v b s) (view (record_at s at)) (ask_long m)).answer

  pub delivered : {v' b' s' r a' : List ℕ} {n : ℕ} → length r ≡ length (inner a) → told v' b' s' r ≡ told_sdo → n ≡ spoken_length at m v b s → SdoLong n → a' ≡ splice (outer a r) 0 (sealed h (take n (drop 8 (outer a r))))
      → told v' b' s' a' ≡ mail_told at h m v b s a
  unfolding speak told_by mail_answer
  delivered {v'} {b'} {s'} {r} {a'} {n} kept q e f p = ap (λ (k : Told). told k.values k.block k.state a') q ∙ ap (told told_sdo.values told_sdo.block told_sdo.state) (p ∙ sealed-over)
    where
      put : r ≡ splice (inner a) 0 (long_answer answer)
      put = ap (λ (k : Told). k.answer) q

      fits : length (long_answer answer) ≤ length r
      fits = omega (arith, e, f.most, kept, inner_long a long)

      here : take n (drop 8 (outer a r)) ≡ long_answer answer
      here =
          ap (take n) (behind_head a long r kept)
          ∙ take-append-le n r (drop 120 (drop 8 a)) (omega (arith, e, fits))
          ∙ ap (take n) put
          ∙ part_same (inner a) 0 (long_answer answer) (le-leb 0 (length (inner a)) (omega arith)) n (sym e)

      full : length (mail_answer h answer) ≡ 128
      full = mailed_full h.address (counter_in h) (service_of answer) (long_answer answer) (omega (arith, e, f.least)) (omega (arith, e, f.most))

      sealed-over : splice (outer a r) 0 (sealed h (take n (drop 8 (outer a r)))) ≡ splice a 0 (mail_answer h answer)
      sealed-over = ap (λ (y : List ℕ). splice (outer a r) 0 (sealed h y)) here ∙ ap (splice (outer a r) 0) (sealed-answer h answer) ∙ over-all a long r kept (mail_answer h answer) full
