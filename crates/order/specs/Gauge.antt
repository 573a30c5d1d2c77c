-- RULE: THE PLAIN GAUGE (R15.6): it knows no messages, no parts and no lines. It is given whole reads, whole writes and samples, one after the other.
use Rattle.std.specs.Prelude.{ℕ, cond, List, [], ◌∷◌, ltb, length, take}
use Rattle.std.proofs.Math.Option.{Option, none, some}
use Rattle.order.specs.Talk.{Said, announced, unsaid, own, Read, value, denied, Sizes, sizes, closed, Outcome, stored, restarted, declined, Result, gave, yes!, code, taken}

-- A gauge, entry by entry; `name_of` is what answers tell of a key. `read_whole` judges index, subindex and access and gives the value. `write_sizes` is
-- what the table says of writing the entry; it has no store among its arguments. `commit` is given bytes of an allowed length: the last checks, then the write with its
-- effects. `sampled` is the store after a sample
pub record Gauge : Type 1 where
  pub Store : Type 0
  pub Key : Type 0
  pub Name : Type 0
  pub name_of : Key → Name
  pub Sample : Type 0
  pub read_whole : Store → Key → Read
  pub write_sizes : Key → Sizes
  pub commit : Store → Key → List ℕ → Outcome Store
  pub sampled : Store → Sample → Store

-- R7.5
abbrev pub too_long : ℕ
too_long = 0x06070012

abbrev pub too_short : ℕ
too_short = 0x06070013

-- a length held against the smallest and the largest: refused with a code, or let through
unfoldable pub by_length : {A : Type 0} → ℕ → ℕ → ℕ → (ℕ → A) → A → A
by_length low high n refuse pass = cond (ltb high n) (refuse too_long) (cond (ltb n low) (refuse too_short) pass)

-- the length announced or meant (R7.8)
unfoldable pub narrowed : ℕ → ℕ → Said → Sizes
unfolding by_length
narrowed low high (announced n) = by_length low high n closed (sizes n n)
narrowed low high unsaid = sizes low high
narrowed low high own = sizes high high

unfoldable pub narrow : Sizes → Said → Sizes
unfolding narrowed
narrow (sizes low high) s = narrowed low high s
narrow (closed c) s = closed c

-- where the entry's own length is meant, only so many of the four bytes count (R5.5)
unfoldable pub counted : Said → ℕ → List ℕ → List ℕ
counted (announced n) high bytes = bytes
counted unsaid high bytes = bytes
counted own high bytes = take high bytes

-- the length that an opening in parts says: announced, or unknown
abbrev pub say : Option ℕ → Said
say none = unsaid
say (some n) = announced n

module _ (P : Gauge) where
  -- lengths first, then the last checks (R7.5 to R7.7)
  unfoldable pub judged : P.Store → P.Key → ℕ → ℕ → List ℕ → Outcome P.Store
  unfolding by_length
  judged g k low high bytes = by_length low high (length bytes) declined (P.commit g k bytes)

  unfoldable pub judged_by : P.Store → P.Key → Said → List ℕ → Sizes → Outcome P.Store
  unfolding judged counted
  judged_by g k s bytes (sizes low high) = judged g k low high (counted s high bytes)
  judged_by g k s bytes (closed c) = declined c

  -- all that is judged at opening
  abbrev pub allowed : P.Key → Said → Sizes
  allowed k s = narrow (P.write_sizes k) s

  -- A WHOLE WRITE (R15.6), in the order of the checks (R7.1)
  unfoldable pub write_whole : P.Store → P.Key → Said → List ℕ → Outcome P.Store
  unfolding judged_by
  write_whole g k s bytes = judged_by g k s bytes (allowed k s)

  -- a whole operation
  pub data Op : Type 0 where
    read : P.Key → Op
    write : P.Key → Said → List ℕ → Op
    feed : P.Sample → Op

  unfoldable pub read_result : Read → Result
  read_result (value bytes) = gave bytes
  read_result (denied c) = code c

  unfoldable pub write_result : Outcome P.Store → Result
  write_result (stored g) = yes!
  write_result (restarted g) = yes!
  write_result (declined c) = code c

  -- R7.10
  unfoldable pub written : P.Store → Outcome P.Store → P.Store
  written g (stored g') = g'
  written g (restarted g') = g'
  written g (declined c) = g

  -- what an operation gives back
  unfoldable pub result : P.Store → Op → Result
  unfolding read_result write_result write_whole
  result g (read k) = read_result (P.read_whole g k)
  result g (write k s bytes) = write_result (write_whole g k s bytes)
  result g (feed s) = taken

  -- the store that it leaves
  unfoldable pub after : P.Store → Op → P.Store
  unfolding written write_whole
  after g (read k) = g
  after g (write k s bytes) = written g (write_whole g k s bytes)
  after g (feed s) = P.sampled g s

  -- one whole operation after the other
  unfoldable pub results : P.Store → List Op → List Result
  results g [] = []
  results g (o ∷ os) = result g o ∷ results (after g o) os

  unfoldable pub end_of : P.Store → List Op → P.Store
  end_of g [] = g
  end_of g (o ∷ os) = end_of (after g o) os
