-- RULE: REAL values in bytes (R2.1): four bytes are a bit pattern, and every pattern of a NaN is the one `nan`.
use Rattle.std.specs.Prelude.{List, ℕ, Float}
use Rattle.std.specs.Float.{binary32}
use Rattle.std.specs.Float.Ieee.{of_bits}
use Rattle.wire.specs.Little.{number}

-- the REAL in the four bytes from at on
unfoldable pub real : List ℕ → ℕ → Float
real l at = of_bits binary32 (number l at 4)
