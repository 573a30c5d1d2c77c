-- A row's smallest and largest length are its room. Assumes nothing.
use mathlib.Core.Path.{◌≡◌, refl}
use Prim.Native.Nat.{ℕ}
use native.Mathlib.Omega.{arith}
use Rattle.table.specs.Row.{Row, smallest, largest, Allowed}

module _ (r : Row) where
  pub smallest_is : smallest r ≡ r.len
  unfolding smallest
  smallest_is = refl

  pub largest_is : largest r ≡ r.len
  unfolding largest
  largest_is = refl

  -- so the room is the one length that is allowed
  pub room-allowed : {n : ℕ} → n ≡ r.len → Allowed r n
  room-allowed e = record { enough = omega (arith, e, smallest_is); not_over = omega (arith, e, largest_is) }

  pub allowed-room : {n : ℕ} → Allowed r n → n ≡ r.len
  allowed-room a = omega (arith, a.enough, a.not_over, smallest_is, largest_is)
