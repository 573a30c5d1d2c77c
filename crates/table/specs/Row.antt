-- RULE: a row of the object table (R1.1), the lengths of its values (R7.8), the names of types and accesses (R1.5). Assumes nothing.
use Rattle.std.specs.Prelude.{ℕ, ◌≤◌}

-- Limits and default are numbers, of a REAL its 32 bits; strings, the card and command words have none, and zeros stand there.
pub record Row : Type 0 where
  pub index : ℕ
  pub sub : ℕ
  pub kind : ℕ
  pub access : ℕ
  pub nv : ℕ
  pub len : ℕ
  pub place : ℕ
  pub low : ℕ
  pub high : ℕ
  pub def : ℕ

abbrev pub row : ℕ → ℕ → ℕ → ℕ → ℕ → ℕ → ℕ → ℕ → ℕ → ℕ → Row
row i s k a n l p lo hi d =
    record { index = i; sub = s; kind = k; access = a; nv = n; len = l; place = p; low = lo; high = hi; def = d }

abbrev pub no_row : Row
no_row = row 0 0 0 0 0 0 0 0 0 0

-- `len` is the room of a row: the bytes that its entry takes in the values or in the saved block. A value that a client reads or writes has
-- from `smallest` to `largest` bytes: who judges or tells a length asks these two. In the base all three are one.
unfoldable pub smallest : Row → ℕ
smallest r = r.len

unfoldable pub largest : Row → ℕ
largest r = r.len

-- so many bytes may be a value of the row
pub record Allowed (r : Row) (n : ℕ) : Type 0 where
  pub enough : smallest r ≤ n
  pub not_over : n ≤ largest r

-- the types: 0 to 5 are numbers (USINT is also BYTE and Enum), a string is bytes, the card is a view, a command word acts
abbrev pub BOOL : ℕ
BOOL = 0

abbrev pub USINT : ℕ
USINT = 1

abbrev pub UINT : ℕ
UINT = 2

abbrev pub UDINT : ℕ
UDINT = 3

abbrev pub ULINT : ℕ
ULINT = 4

abbrev pub REAL : ℕ
REAL = 5

abbrev pub STRING : ℕ
STRING = 6

abbrev pub CARD : ℕ
CARD = 7

abbrev pub COMMAND : ℕ
COMMAND = 8

-- the accesses: read only, write only, both
abbrev pub RO : ℕ
RO = 1

abbrev pub WO : ℕ
WO = 2

abbrev pub RW : ℕ
RW = 3
