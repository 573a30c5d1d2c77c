-- RULE: THE CHECKS of a whole read and of a whole write: named tests in their order (R7.1), each with its code. The first that fails
-- refuses; what passes them all is served. Assumes nothing.
use Rattle.std.specs.Prelude.{Bool, true, false, cond, List, [], ◌∷◌, ◌++◌, ℕ, ltb, eqb, length, Result, Ok, Err}
use Rattle.std.proofs.Math.Option.{Option, none, some}
use Rattle.order.specs.Talk.{Said, announced, unsaid, own}
use Rattle.order.specs.Gauge.{too_long, too_short, counted}
use Rattle.table.specs.Row.{Row, smallest, largest, RO, WO, CARD}
use Rattle.table.specs.Rows.{at_row}
use Rattle.table.specs.Find.{Found, At, NoIndex, NoSub, row_number}
use Rattle.table.specs.Codes.{index_absent, subindex_absent, write_only, read_only, lock_shut, left_crossed, code_of as abort_code}
use Rattle.gate.specs.Lock.{locked}
use Rattle.limits.specs.Limits.{Verdict, verdict_code, row_verdict}
use Rattle.limits.specs.declared.Outside.TheVariants.{NotANumber, Above, Below}
use Rattle.table.specs.declared.code.AbortCode.{AbortCode}
use Rattle.card.specs.Card.{card_verdict}
use Rattle.gauge.specs.Written.{crosses_1, crosses_2}

-- ---- what is asked

-- a whole write: what the key leads to, the length announced or meant, if any, the bytes sent (R15.6), and the values as they stand
pub record Asked : Type 0 where
  pub found : Found
  pub said : Said
  pub bytes : List ℕ
  pub values : List ℕ

abbrev pub asked : Found → Said → List ℕ → List ℕ → Asked
asked found said bytes values = record { found = found; said = said; bytes = bytes; values = values }

-- a read, and a write before its length is known, bring no bytes
abbrev pub asked_key : Found → Asked
asked_key found = asked found unsaid [] []

-- the last message to a row brings the rest of them, and their length was judged before
abbrev pub asked_last : ℕ → List ℕ → List ℕ → Asked
asked_last row bytes values = asked (At row) unsaid bytes values

-- the row of zeros where there is none
abbrev pub row_asked : Asked → Row
row_asked a = at_row (row_number a.found)

-- the bytes that count
abbrev pub sent : Asked → List ℕ
sent a = counted a.said (largest (row_asked a)) a.bytes

-- the smallest and the largest length that may be sent: the one announced or meant, or else the table's
unfoldable pub least : ℕ → ℕ → Said → ℕ
least low high (announced n) = n
least low high unsaid = low
least low high own = high

unfoldable pub most : ℕ → Said → ℕ
most high (announced n) = n
most high unsaid = high
most high own = high

-- ---- the tests

pub data Test : Type 0 where
  no_such_index : Test
  no_such_subindex : Test
  only_written : Test
  only_read : Test
  announced_long : Test
  announced_short : Test
  sent_long : Test
  sent_short : Test
  under_lock : Test
  no_number : Test
  too_high : Test
  too_low : Test
  crossed_1 : Test
  crossed_2 : Test

unfoldable pub code_of : Test → ℕ
code_of no_such_index = index_absent
code_of no_such_subindex = subindex_absent
code_of only_written = write_only
code_of only_read = read_only
code_of announced_long = too_long
code_of announced_short = too_short
code_of sent_long = too_long
code_of sent_short = too_short
code_of under_lock = lock_shut
code_of no_number = verdict_code (Err NotANumber)
code_of too_high = verdict_code (Err Above)
code_of too_low = verdict_code (Err Below)
code_of crossed_1 = left_crossed
code_of crossed_2 = left_crossed

unfoldable pub is_no_index : Found → Bool
is_no_index (At r) = false
is_no_index NoIndex = true
is_no_index NoSub = false

unfoldable pub is_no_sub : Found → Bool
is_no_sub (At r) = false
is_no_sub NoIndex = false
is_no_sub NoSub = true

-- is a length announced that is above, or below?
unfoldable pub says_above : ℕ → Said → Bool
says_above high (announced n) = ltb high n
says_above high unsaid = false
says_above high own = false

unfoldable pub says_below : ℕ → Said → Bool
says_below low (announced n) = ltb n low
says_below low unsaid = false
says_below low own = false

-- the bytes against the limits
unfoldable pub verdict_of : Row → List ℕ → Verdict
verdict_of r bytes = cond (eqb r.kind CARD) (card_verdict bytes) (row_verdict r bytes)

abbrev pub judged_as : Verdict → Asked → Bool
judged_as v a = eqb (verdict_code (verdict_of (row_asked a) (sent a))) (verdict_code v)

unfoldable pub fails : Test → Asked → Bool
fails no_such_index a = is_no_index a.found
fails no_such_subindex a = is_no_sub a.found
fails only_written a = eqb (row_asked a).access WO
fails only_read a = eqb (row_asked a).access RO
fails announced_long a = says_above (largest (row_asked a)) a.said
fails announced_short a = says_below (smallest (row_asked a)) a.said
fails sent_long a = ltb (most (largest (row_asked a)) a.said) (length (sent a))
fails sent_short a = ltb (length (sent a)) (least (smallest (row_asked a)) (largest (row_asked a)) a.said)
fails under_lock a = locked (row_asked a) a.values
fails no_number a = judged_as (Err NotANumber) a
fails too_high a = judged_as (Err Above) a
fails too_low a = judged_as (Err Below) a
fails crossed_1 a = crosses_1 (row_asked a) a.values (sent a)
fails crossed_2 a = crosses_2 (row_asked a) a.values (sent a)

-- ---- the order

-- a read: its key (R7.3, R7.4)
unfoldable pub read_order : List Test
read_order = no_such_index ∷ no_such_subindex ∷ only_written ∷ []

-- a write: its key, at the opening (R7.3, R7.4)
unfoldable pub key_order : List Test
key_order = no_such_index ∷ no_such_subindex ∷ only_read ∷ []

-- its length, announced and then sent (R7.5, R7.8)
unfoldable pub length_order : List Test
length_order = announced_long ∷ announced_short ∷ sent_long ∷ sent_short ∷ []

-- the lock, the limits and the trip points, at the last message (R7.6 to R7.8)
unfoldable pub last_order : List Test
last_order = under_lock ∷ no_number ∷ too_high ∷ too_low ∷ crossed_1 ∷ crossed_2 ∷ []

unfoldable pub write_order : List Test
write_order = key_order ++ (length_order ++ last_order)

-- which test refuses, if any: the first that fails
unfoldable pub refused_by : Asked → List Test → Option Test
refused_by a [] = none
refused_by a (t ∷ ts) = cond (fails t a) (some t) (refused_by a ts)

-- what comes of it: the test's code, or what is done
unfoldable pub unless_refused : {A : Type 0} → Option Test → (ℕ → A) → A → A
unless_refused none refuse done = done
unless_refused (some t) refuse done = refuse (code_of t)

-- the code that is told, 0 where nothing refuses
abbrev pub code_told : Option Test → ℕ
code_told o = unless_refused o (λ code. code) 0

-- as the code says it
unfoldable pub code_in : Result (Unit {0}) AbortCode → ℕ
code_in (Ok u) = 0
code_in (Err abort) = abort_code abort
