-- RULE: what a value is to the limits of its row (R2.4).
use Rattle.std.specs.Prelude.{Bool, true, false, cond, List, ℕ, eqb, leb, ltb, Result, Ok, Err}
use Rattle.std.specs.Float.{binary32}
use Rattle.std.specs.Float.Ieee.{lt, is_nan, of_bits}
use Rattle.wire.specs.Little.{from_little}
use Rattle.table.specs.Row.{Row, USINT, UINT, REAL}
use Rattle.limits.specs.declared.Outside.{Outside}
use Rattle.limits.specs.declared.Outside.TheVariants.{NotANumber, Above, Below}
use Rattle.table.specs.declared.code.AbortCode.{AbortCode}
use Rattle.table.specs.declared.code.AbortCode.TheVariants.{NotANumber as NoNumber, TooHigh, TooLow}

abbrev pub Verdict : Type 0
Verdict = Result (Unit {0}) Outside

abbrev pub within : Verdict
within = Ok tt

-- what is refused for it
unfoldable pub abort_for : Outside → AbortCode
abort_for NotANumber = NoNumber
abort_for Above = TooHigh
abort_for Below = TooLow

-- the code of each verdict (R2.4), 0 for none
unfoldable pub verdict_code : Verdict → ℕ
verdict_code (Ok u) = 0
verdict_code (Err NotANumber) = 0x06090030
verdict_code (Err Above) = 0x06090031
verdict_code (Err Below) = 0x06090032

-- not a number, above the highest, below the lowest: the first that holds decides
unfoldable pub first_fault : Bool → Bool → Bool → Verdict
first_fault true above below = Err NotANumber
first_fault false true below = Err Above
first_fault false false true = Err Below
first_fault false false false = within

-- a whole number goes by size
unfoldable pub whole_verdict : ℕ → ℕ → ℕ → Verdict
whole_verdict low high v = first_fault false (ltb high v) (ltb v low)

-- a REAL goes by the floats that the patterns stand for: infinities are outside (R2.4), both zeros are one (R2.5)
unfoldable pub real_verdict : ℕ → ℕ → ℕ → Verdict
real_verdict low high v =
    first_fault (is_nan (of_bits binary32 v)) (lt (of_bits binary32 high) (of_bits binary32 v)) (lt (of_bits binary32 v) (of_bits binary32 low))

-- by kind: whole numbers are below REAL; strings, the card and command words, above it, have no limits as numbers
unfoldable pub by_kind : Bool → Bool → ℕ → ℕ → ℕ → Verdict
by_kind true real low high v = whole_verdict low high v
by_kind false true low high v = real_verdict low high v
by_kind false false low high v = within

unfoldable pub kind_verdict : ℕ → ℕ → ℕ → ℕ → Verdict
kind_verdict kind low high v = by_kind (ltb kind REAL) (eqb kind REAL) low high v

-- ---- of a row

-- the bytes that are looked at as a number, by the type: a ULINT's are not asked for, and of a string they are the first four
unfoldable pub number_len : ℕ → ℕ
number_len kind = cond (leb kind USINT) 1 (cond (eqb kind UINT) 2 4)

-- a number against a row's limits
unfoldable pub number_verdict : Row → ℕ → Verdict
number_verdict r v = kind_verdict r.kind r.low r.high v

-- bytes against a row's limits
unfoldable pub row_verdict : Row → List ℕ → Verdict
row_verdict r bytes = number_verdict r (from_little bytes)
