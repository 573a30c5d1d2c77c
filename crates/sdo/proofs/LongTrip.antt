-- A client reads in an SDO of 8 to 120 bytes what the board meant by it; what such an SDO asks.
use Prim.Native.Nat.{ℕ, suc, ◌+◌, ◌-◌, ◌*◌, ◌≤◌, ◌<◌}
use native.Mathlib.Omega.{arith}
use mathlib.Core.Path.{◌≡◌, refl, ap, ◌∙◌}
use mathlib.Core.Logic.{◌⊎◌, inl, inr, ⊎_elim}
use mathlib.Core.Bool.{Bool, true, false, cond, false≢true}
use mathlib.Core.List.{List, [], ◌∷◌, ◌++◌, append-nil}
use lib.Dec.{leb}
use lib.ListN.{length, take, get_or, length-append, length-replicate}
use borrow.Author.Tests.{leb-true, leb-false, le-leb, lt-leb}
use Rattle.wire.specs.Flags.{bit}
use Rattle.wire.specs.Little.{little, from_little, number}
use Rattle.wire.proofs.LittleLaws.{byte_split, from_little-little}
use Rattle.wire.proofs.FlagLaws.{by_test}
use Rattle.order.specs.Talk.{Request, Answer, opened, part_given, write_opened, part_taken, refused, dropped, no_transfer, silent}
use Rattle.order.specs.Promise.{is_abort}
use Rattle.sdo.specs.declared.Key.{Key}
use Rattle.sdo.specs.declared.Message.{Message}
use Rattle.std.specs.Prelude.{Option}
use Rattle.sdo.specs.Eight.{heard_of, request_heard, answer_of, tell_of, short}
use Rattle.sdo.specs.Long.{asked_with, ask_long, long_answer, told_with, tell_long, CarriedLong}
use Rattle.sdo.proofs.Facts.{short_bounds}
use Rattle.sdo.proofs.RoundTrip.{round, answer-eight, abort_told}
use Rattle.sdo.proofs.HeardLaws.{ask_is}

-- ---- what is asked: what the eight bytes say, with what stands behind them

pub long_request : (s : List ℕ) (h : Option Message) → heard_of s ≡ h → ask_long s ≡ asked_with (request_heard h s) s
unfolding ask_long
long_request s h e = ap (λ (a : Request Key). asked_with a s) (ask_is s h e)

-- bytes that begin with 80 are an abort's, and an abort's begin so
pub abort_told_long : (t : Answer Key) → get_or (long_answer t) 0 0 ≡ 0x80 → is_abort t ≡ true
unfolding long_answer answer_of is_abort
abort_told_long (opened k n bytes all) e = go (short n) e
  where
    go : (d : Bool) → get_or (cond d (answer_of (opened k n bytes true)) (answer_of (opened k n [] false) ++ bytes)) 0 0 ≡ 0x80 → false ≡ true
    go true e = absurd (omega (arith, e))
    go false e = absurd (omega (arith, e))
abort_told_long (part_given t bytes last) e = abort_told (part_given t bytes last) e
abort_told_long (write_opened k) e = abort_told (write_opened k) e
abort_told_long (part_taken t) e = abort_told (part_taken t) e
abort_told_long (refused k c) e = refl
abort_told_long (dropped k c) e = refl
abort_told_long no_transfer e = refl
abort_told_long silent e = abort_told silent e

pub abort_begins : (t : Answer Key) → is_abort t ≡ true → get_or (long_answer t) 0 0 ≡ 0x80
unfolding long_answer answer_of is_abort
abort_begins (opened k n bytes all) e = absurd (false≢true e)
abort_begins (part_given t bytes last) e = absurd (false≢true e)
abort_begins (write_opened k) e = absurd (false≢true e)
abort_begins (part_taken t) e = absurd (false≢true e)
abort_begins (refused k c) e = refl
abort_begins (dropped k c) e = refl
abort_begins no_transfer e = refl
abort_begins silent e = absurd (false≢true e)

-- ---- an opening, read back

-- with its length, and what it carries behind it
long_back : (k : Key) (n : ℕ) (bytes : List ℕ) → n < 0x1_0000_0000 → tell_long (answer_of (opened k n [] false) ++ bytes) ≡ opened k n bytes (leb n (length bytes))
unfolding tell_long tell_of answer_of told_with number little from_little
long_back k n bytes h = rw (byte_split k.index, from_little-little 4 n h)

opened-back : (k : Key) (n : ℕ) (bytes : List ℕ) (all : Bool) → n < 0x1_0000_0000 → leb n (length bytes) ≡ all → (short n ≡ true → (n ≡ length bytes) × (all ≡ true))
    → tell_long (long_answer (opened k n bytes all)) ≡ opened k n bytes all
unfolding long_answer tell_long told_with
opened-back k n bytes all h e c = go (short n) refl
  where
    go : (d : Bool) → short n ≡ d → tell_long (cond d (answer_of (opened k n bytes true)) (answer_of (opened k n [] false) ++ bytes)) ≡ opened k n bytes all
    go true s =
        let b = short_bounds n s in
        let l : n ≡ length bytes = (c s).0 in
        rw (round (opened k n bytes true) (l, omega (arith, b.0), omega (arith, b.1)), (c s).1)
    go false s = long_back k n bytes h ∙ ap (opened k n bytes) e

-- ---- a part, read back

-- one of more than seven bytes has no unused ones
pub long_part_is : (t last : Bool) (bytes : List ℕ) → 7 < length bytes → answer_of (part_given t bytes last) ≡ (16 * bit t + bit last) ∷ bytes
unfolding answer_of
long_part_is t last bytes h =
    let z : 7 - length bytes ≡ 0 = omega arith in
    rw (z, append-nil bytes) (ap (λ (b : ℕ). b ∷ bytes) (omega arith))

long_part : (t last : Bool) (bytes : List ℕ) → tell_long ((16 * bit t + bit last) ∷ bytes) ≡ part_given t (cond (leb (suc (length bytes)) 8) (take 7 bytes) bytes) last
unfolding tell_long tell_of told_with
long_part true true bytes = refl
long_part true false bytes = refl
long_part false true bytes = refl
long_part false false bytes = refl

part-back : (t last : Bool) (bytes : List ℕ) → tell_long (answer_of (part_given t bytes last)) ≡ part_given t bytes last
unfolding tell_long told_with
part-back t last bytes = by_test (leb (length bytes) 7) (λ e. few (leb-true _ _ e)) (λ e. many (leb-false _ _ e))
  where
    few : length bytes ≤ 7 → tell_long (answer_of (part_given t bytes last)) ≡ part_given t bytes last
    few h =
        let eight : length (answer_of (part_given t bytes last)) ≤ 8 = ⊎_elim (λ e. rw e (omega arith)) (λ e. omega (arith, e)) (answer-eight (part_given t bytes last) h) in
        rw (round (part_given t bytes last) h, le-leb (length (answer_of (part_given t bytes last))) 8 eight)

    many : 7 < length bytes → tell_long (answer_of (part_given t bytes last)) ≡ part_given t bytes last
    many h = ap tell_long (long_part_is t last bytes h) ∙ long_part t last bytes ∙ rw (lt-leb (suc (length bytes)) 8 (omega arith))

-- THEOREM
pub round_long : (t : Answer Key) → CarriedLong t → tell_long (long_answer t) ≡ t
unfolding long_answer tell_long told_with
round_long (opened k n bytes true) h = opened-back k n bytes true (omega (arith, h.0, h.1)) (le-leb n (length bytes) (omega (arith, h.0))) (λ e. (h.0, refl))
round_long (opened k n bytes false) h = opened-back k n bytes false h.2 (lt-leb n (length bytes) (omega (arith, h.0, h.1))) (λ e. absurd (omega (arith, (short_bounds n e).1, h.1)))
round_long (part_given t bytes last) h = part-back t last bytes
round_long (write_opened k) h = rw (round (write_opened k) tt)
round_long (part_taken t) h = rw (round (part_taken t) tt)
round_long (refused k c) h = rw (round (refused k c) h)
round_long (dropped k c) h = rw (round (dropped k c) h)
round_long no_transfer h = rw (round no_transfer tt)
round_long silent h = rw (round silent tt)

-- ---- an answer is 8 to 120 bytes, or none

abbrev pub Fitting : List ℕ → Type 0
Fitting s = (8 ≤ length s) × (length s ≤ 120)

opened-length : (k : Key) (n : ℕ) (bytes : List ℕ) (all : Bool) → length bytes ≤ 112 → Fitting (long_answer (opened k n bytes all))
unfolding long_answer answer_of little
opened-length k n bytes all h = go (short n)
  where
    go : (d : Bool) → Fitting (cond d (answer_of (opened k n bytes true)) (answer_of (opened k n [] false) ++ bytes))
    go true = simp (length-append, length-replicate) (omega arith, omega arith)
    go false = (omega arith, omega arith)

pub long_length : (t : Answer Key) → CarriedLong t → (long_answer t ≡ []) ⊎ Fitting (long_answer t)
unfolding long_answer answer_of little
long_length (opened k n bytes true) h = inr (opened-length k n bytes true h.1)
long_length (opened k n bytes false) h = inr (opened-length k n bytes false (omega (arith, h.0)))
long_length (part_given t bytes last) h = inr (simp (length-append, length-replicate) (omega arith, omega (arith, h)))
long_length (write_opened k) h = inr (omega arith, omega arith)
long_length (part_taken t) h = inr (omega arith, omega arith)
long_length (refused k c) h = inr (omega arith, omega arith)
long_length (dropped k c) h = inr (omega arith, omega arith)
long_length no_transfer h = inr (omega arith, omega arith)
long_length silent h = inl refl
