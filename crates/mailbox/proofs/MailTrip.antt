-- A client reads in a mailbox what the board meant by it; an answer is 128 bytes, or none.
use Prim.Native.Nat.{ℕ, ◌+◌, ◌-◌, ◌*◌, ◌/◌, ◌%◌, ◌≤◌}
use native.Mathlib.Omega.{arith}
use mathlib.Core.Path.{◌≡◌, refl, sym, ap, ◌∙◌}
use mathlib.Core.Logic.{◌⊎◌, inl, inr, ⊎_elim}
use mathlib.Core.Bool.{Bool, cond, false≢true}
use mathlib.Core.List.{List, [], ◌∷◌, ◌++◌}
use lib.Dec.{eqb}
use lib.ListN.{length, take, get_or, replicate, length-append, length-replicate}
use lib.Seq.{take_at}
use borrow.Author.Tests.{eq-eqb, ne_eqb}
use Rattle.wire.specs.Little.{little, from_little, number}
use Rattle.wire.proofs.FlagLaws.{by_test}
use Rattle.order.specs.Talk.{Answer}
use Rattle.order.specs.Promise.{is_abort}
use Rattle.sdo.specs.declared.Key.{Key}
use Rattle.sdo.specs.Long.{long_answer, tell_long, CarriedLong}
use Rattle.sdo.proofs.LongTrip.{abort_told_long, abort_begins, round_long, long_length}
use Rattle.mailbox.specs.declared.Head.{Head}
use Rattle.mailbox.specs.Mail.{head_of, counter_in, sdo_in, service_of, mailed, mail_answer, mailboxes}
use Rattle.mailbox.specs.Sealing.{sealed}

-- ---- any SDO, put into a mailbox

-- it is what stands behind the headers, as long as the length field says
sdo_back : (address counter service : ℕ) (sdo : List ℕ) → length sdo ≤ 120 → sdo_in (mailed address counter service sdo) ≡ sdo
unfolding mailed number little from_little
sdo_back address counter service [] h = refl
sdo_back address counter service (b ∷ sdo) h =
    let n : (2 + length (b ∷ sdo)) % 256 + 256 * ((2 + length (b ∷ sdo)) / 256 % 256 + 256 * 0) - 2 ≡ length (b ∷ sdo) = omega arith in
    ap (λ (k : ℕ). take k ((b ∷ sdo) ++ replicate (120 - length (b ∷ sdo)) 0)) n ∙ take_at (b ∷ sdo) (replicate (120 - length (b ∷ sdo)) 0) (length (b ∷ sdo)) refl

pub mailed_full : (address counter service : ℕ) (sdo : List ℕ) → 1 ≤ length sdo → length sdo ≤ 120 → length (mailed address counter service sdo) ≡ 128
unfolding mailed little
mailed_full address counter service [] l h = absurd (omega arith)
mailed_full address counter service (b ∷ sdo) l h = simp (length-append, length-replicate) (omega arith)

mailed_long : (address counter service : ℕ) (sdo : List ℕ) → length sdo ≤ 120 → (mailed address counter service sdo ≡ []) ⊎ (length (mailed address counter service sdo) ≡ 128)
unfolding mailed
mailed_long address counter service [] h = inl refl
mailed_long address counter service (b ∷ sdo) h = inr (mailed_full address counter service (b ∷ sdo) (omega arith) h)

-- ---- an answer's

at_most_120 : (t : Answer Key) → CarriedLong t → length (long_answer t) ≤ 120
at_most_120 t h = ⊎_elim (λ e. rw e (omega arith)) (λ f. f.1) (long_length t h)

-- THEOREM
pub round_mail : (m : List ℕ) (t : Answer Key) → CarriedLong t → mailboxes.tell m (mailboxes.answer m t) ≡ t
unfolding mail_answer
round_mail m t h = ap tell_long (sdo_back (head_of m).address (counter_in (head_of m)) (service_of t) (long_answer t) (at_most_120 t h)) ∙ round_long t h

pub mail_long : (h : Head) (t : Answer Key) → CarriedLong t → (mail_answer h t ≡ []) ⊎ (length (mail_answer h t) ≡ 128)
unfolding mail_answer
mail_long h t c = mailed_long h.address (counter_in h) (service_of t) (long_answer t) (at_most_120 t c)

-- its SDO's first byte tells an abort
begins_so : (t : Answer Key) → eqb (get_or (long_answer t) 0 0) 0x80 ≡ is_abort t
begins_so t =
    by_test (is_abort t)
    (λ e. eq-eqb (get_or (long_answer t) 0 0) 0x80 (abort_begins t e) ∙ sym e)
    (λ e. ne_eqb (get_or (long_answer t) 0 0) 0x80 (λ b. false≢true (sym e ∙ abort_told_long t b)) ∙ sym e)

pub sealed-answer : (h : Head) (t : Answer Key) → sealed h (long_answer t) ≡ mail_answer h t
unfolding sealed mail_answer service_of
sealed-answer h t = ap (λ (d : Bool). mailed h.address (counter_in h) (cond d 2 3) (long_answer t)) (begins_so t)
