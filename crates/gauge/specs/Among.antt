-- SHAPE: a place that tells whose entry stands there, as the code asks for it; that it does is computed in proofs/RowTests.antt.
use Rattle.std.specs.Prelude.{Bool, ◌&&◌, ℕ, ◌+◌, leb, ltb}

-- among the bytes from at on, so many
unfoldable pub among : (at size place : ℕ) → Bool
among at size place = leb at place && ltb place (at + size)
