-- RULE: what is said on a line, freed of its bytes: requests, answers, what a whole read or write comes to, and what a line holds.
-- `K` is the type of keys: what names an entry. Answers are over `N`, the names that a client reads in them.
use Rattle.std.specs.Prelude.{ℕ, Bool, List}
use Rattle.std.proofs.Math.Option.{Option}

-- the length of a write: announced (R5.6); not said; or the entry's own is meant (R5.5)
pub data Said : Type 0 where
  announced : ℕ → Said
  unsaid : Said
  own : Said

-- by the specifier: 2, 3, 1 with the value in it, 1 without, 0, 4, and 5 to 7 (R5.2 to R5.9).
-- Toggles are Bools; the last Bool of `send_part` marks the last part; `open_write` may carry bytes in a longer form of a line
pub data Request (K : Type 0) : Type 0 where
  open_read : K → Request K
  next_part : Bool → Request K
  expedited : K → Said → List ℕ → Request K
  open_write : K → Option ℕ → List ℕ → Request K
  send_part : Bool → List ℕ → Bool → Request K
  give_up : Request K
  unknown : Request K

-- `opened` answers the opening of a read: name, length, the bytes that it carries, whether these are all. `part_given` is a part
-- of a read, `write_opened` is 60 and `part_taken` 20 or 30. `refused` gives a code from 06020000 on, in the order of R7. One before it only drops a
-- transfer (R15.5): `dropped` tells it with the transfer's name, `no_transfer` is 05040001, which has none. `silent`: no answer
pub data Answer (N : Type 0) : Type 0 where
  opened : N → ℕ → List ℕ → Bool → Answer N
  part_given : Bool → List ℕ → Bool → Answer N
  write_opened : N → Answer N
  part_taken : Bool → Answer N
  refused : N → ℕ → Answer N
  dropped : N → ℕ → Answer N
  no_transfer : Answer N
  silent : Answer N

-- a whole read: the value, or a code
pub data Read : Type 0 where
  value : List ℕ → Read
  denied : ℕ → Read

-- what the table says of writing an entry: the smallest and the largest length, or a code (R7.8)
pub data Sizes : Type 0 where
  sizes : ℕ → ℕ → Sizes
  closed : ℕ → Sizes

-- a whole write: a new store; a new store after a device reset, which drops both lines' transfers (R8.8); or a code
pub data Outcome (G : Type 0) : Type 0 where
  stored : G → Outcome G
  restarted : G → Outcome G
  declined : ℕ → Outcome G

-- a line's transfer: of a read the value as it was held (R5.3), the place and the toggle to come; of a write the smallest
-- and the largest length, the bytes sent so far and the toggle to come
pub data Pending (K : Type 0) : Type 0 where
  idle : Pending K
  reading : K → List ℕ → ℕ → Bool → Pending K
  writing : K → ℕ → ℕ → List ℕ → Bool → Pending K

-- what a whole operation gives back: a value, yes, a code; a sample is taken
pub data Result : Type 0 where
  gave : List ℕ → Result
  yes! : Result
  code : ℕ → Result
  taken : Result
