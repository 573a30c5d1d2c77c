-- SHAPE: what is asked of bytes that are written at a place: they are one of a trip point's four fields, or apart from it.
use Rattle.std.specs.Prelude.{Bool, true, cond, ◌&&◌, ◌≡◌, ℕ, ◌+◌, ◌≤◌, eqb}
use Rattle.wire.specs.Splice.{apart}
use Rattle.table.specs.Places.{high_enable, low_enable, high_level, low_level}

-- the n bytes from p on are the m bytes from q on, or apart from them
unfoldable pub own_or_apart : (q m p n : ℕ) → Bool
own_or_apart q m p n = cond (eqb q p) (eqb m n) (apart p n q m)

-- they are each field, or apart from it, of the point whose settings begin at a place
unfoldable pub fitting : (at p n : ℕ) → Bool
fitting at p n =
    own_or_apart (at + high_enable) 1 p n && (own_or_apart (at + low_enable) 1 p n && (own_or_apart (at + high_level) 4 p n && own_or_apart (at + low_level) 4 p n))

-- and they lie in the values
pub record Fits (at p n : ℕ) : Type 0 where
  pub inside : p + n ≤ 1024
  pub own : fitting at p n ≡ true
