-- Worked examples of the limits, as one statement over a list.
use mathlib.Core.Path.{◌≡◌, refl}
use Prim.Native.Nat.{ℕ}
use mathlib.Core.List.{List, [], ◌∷◌, map}
use lib.Ieee.{lt, is_nan, of_bits, of_fields}
use Rattle.table.specs.Row.{USINT, REAL}
use Rattle.limits.specs.Limits.{verdict_code, first_fault, whole_verdict, real_verdict, by_kind, kind_verdict}

-- a number of a kind, with its limits and the code that it brings
pub record Judged : Type 0 where
  pub kind : ℕ
  pub low : ℕ
  pub high : ℕ
  pub v : ℕ
  pub code : ℕ

-- trip levels lie from 0 to 1500, other REALs are finite; the lock is 0 or 1
abbrev trip_level : ℕ → ℕ → Judged
trip_level v code = record { kind = REAL; low = 0; high = 0x44BB8000; v = v; code = code }

abbrev finite : ℕ → ℕ → Judged
finite v code = record { kind = REAL; low = 0xFF7FFFFF; high = 0x7F7FFFFF; v = v; code = code }

abbrev lock : ℕ → ℕ → Judged
lock v code = record { kind = USINT; low = 0; high = 1; v = v; code = code }

-- In order: 0, minus zero, 1500 and the next above it, the least below zero; not a number, plus and minus infinity;
-- the same three where every finite number is allowed, with the largest and the least of these; the lock at 0, 1 and 2.
abbrev pub judged : List Judged
judged =
    trip_level 0 0 ∷
    trip_level 0x80000000 0 ∷
    trip_level 0x44BB8000 0 ∷
    trip_level 0x44BB8001 0x06090031 ∷
    trip_level 0x80000001 0x06090032 ∷
    trip_level 0x7FC00000 0x06090030 ∷
    trip_level 0x7F800000 0x06090031 ∷
    trip_level 0xFF800000 0x06090032 ∷
    finite 0xFFFFFFFF 0x06090030 ∷
    finite 0x7F800000 0x06090031 ∷
    finite 0xFF800000 0x06090032 ∷
    finite 0x7F7FFFFF 0 ∷
    finite 0xFF7FFFFF 0 ∷
    lock 0 0 ∷
    lock 1 0 ∷
    lock 2 0x06090031 ∷
    []

pub judged-right : map (λ (j : Judged). verdict_code (kind_verdict j.kind j.low j.high j.v)) judged ≡ map (λ (j : Judged). j.code) judged
unfolding verdict_code first_fault whole_verdict real_verdict by_kind kind_verdict lt is_nan of_bits of_fields
judged-right = refl
