-- RULE: AN SDO OF 8 TO 120 BYTES, as a mailbox has it (R18.4): it says what its eight bytes say (specs/Eight), and more may stand behind them.
use Rattle.std.specs.Prelude.{ℕ, ◌≤◌, ◌<◌, min, ◌≡◌, Bool, true, false, cond, List, [], ◌++◌, T, leb, length, drop}
use Rattle.std.proofs.Common.{arith, leb→le}
use Rattle.std.proofs.Math.Option.{none, some}
use Rattle.order.specs.Talk.{announced, Request, open_read, next_part, expedited, open_write, send_part, give_up, unknown, Answer, opened, part_given, write_opened, part_taken, refused, dropped, no_transfer, silent}
use Rattle.order.specs.Serve.{Form, Speech}
use Rattle.sdo.specs.declared.Key.{Key}
use Rattle.sdo.specs.Eight.{ask_of, answer_of, tell_of, short, Code, DropCode}

-- the bytes of a part: of an SDO of eight bytes those that it says are used, of a longer one all (R18.6)
abbrev pub part_bytes : List ℕ → List ℕ → List ℕ
part_bytes used s = cond (leb (length s) 8) used (drop 1 s)

-- ---- what is asked

-- an opening that brings all the bytes that it announces, or more, is the whole write (R18.7)
unfoldable pub opening_with : Key → ℕ → List ℕ → Request Key
opening_with k n bytes = cond (leb n (length bytes)) (expedited k (announced n) bytes) (open_write k (some n) bytes)

-- what the eight bytes ask, with what stands behind them
unfoldable pub asked_with : Request Key → List ℕ → Request Key
unfolding opening_with
asked_with (open_read k) s = open_read k
asked_with (next_part t) s = next_part t
asked_with (expedited k said bytes) s = expedited k said bytes
asked_with (open_write k none bytes) s = open_write k none (drop 8 s)
asked_with (open_write k (some n) bytes) s = opening_with k n (drop 8 s)
asked_with (send_part t bytes last) s = send_part t (part_bytes bytes s) last
asked_with give_up s = give_up
asked_with unknown s = unknown

unfoldable pub ask_long : List ℕ → Request Key
unfolding asked_with ask_of
ask_long s = asked_with (ask_of s) s

-- ---- how a value is carried: 112 bytes behind an opening, 119 in a part (R18.5, R18.6)

abbrev pub fits : ℕ → Bool
fits n = leb n 112

abbrev pub fitting_bytes : ℕ → ℕ
fitting_bytes n = min n 112

pub bytes_in : (n : ℕ) → fitting_bytes n ≤ n
bytes_in n = omega arith

pub fits_all : (n : ℕ) → T (fits n) → n ≤ fitting_bytes n
fits_all n t = let h : n ≤ 112 = leb→le n 112 t in omega arith

unfoldable pub long_form : Form
long_form = record { carried = fitting_bytes; closes = fits; size = 119; carried_in = bytes_in; closes_all = fits_all }

-- ---- answers

-- the opening of a read of more than four bytes has what it carries behind the length (R18.5)
unfoldable pub long_answer : Answer Key → List ℕ
unfolding answer_of
long_answer (opened k n bytes all) = cond (short n) (answer_of (opened k n bytes true)) (answer_of (opened k n [] false) ++ bytes)
long_answer (part_given t bytes last) = answer_of (part_given t bytes last)
long_answer (write_opened k) = answer_of (write_opened k)
long_answer (part_taken t) = answer_of (part_taken t)
long_answer (refused k c) = answer_of (refused k c)
long_answer (dropped k c) = answer_of (dropped k c)
long_answer no_transfer = answer_of no_transfer
long_answer silent = answer_of silent

-- THE CLIENT'S READING: what the eight bytes tell, with what stands behind them. A read is closed by an opening that has all its bytes
unfoldable pub told_with : Answer Key → List ℕ → Answer Key
told_with (opened k n bytes true) s = opened k n bytes true
told_with (opened k n bytes false) s = opened k n (drop 8 s) (leb n (length (drop 8 s)))
told_with (part_given t bytes last) s = part_given t (part_bytes bytes s) last
told_with (write_opened k) s = write_opened k
told_with (part_taken t) s = part_taken t
told_with (refused k c) s = refused k c
told_with (dropped k c) s = dropped k c
told_with no_transfer s = no_transfer
told_with silent s = silent

unfoldable pub tell_long : List ℕ → Answer Key
unfolding told_with tell_of
tell_long s = told_with (tell_of s) s

-- the answers that 120 bytes carry
abbrev pub CarriedLong : Answer Key → Type 0
CarriedLong (opened k n bytes true) = (n ≡ length bytes) × (length bytes ≤ 112)
CarriedLong (opened k n bytes false) = (length bytes ≡ 112) × (112 < n) × (n < 0x1_0000_0000)
CarriedLong (part_given t bytes last) = length bytes ≤ 119
CarriedLong (write_opened k) = Unit {0}
CarriedLong (part_taken t) = Unit {0}
CarriedLong (refused k c) = Code c
CarriedLong (dropped k c) = DropCode c
CarriedLong no_transfer = Unit {0}
CarriedLong silent = Unit {0}

-- SDOs of up to 120 bytes
abbrev pub long_sdo : Speech Key Key
long_sdo = record { form = long_form; ask = ask_long; answer = λ s t. long_answer t; tell = λ s a. tell_long a }
