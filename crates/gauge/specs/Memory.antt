-- RULE: what the plain gauge remembers. Assumes nothing.
use Rattle.std.specs.Prelude.{List, ℕ}
use Rattle.trip.specs.declared.Trips.{Trips}

-- live values and saved block
pub record Memory : Type 0 where
  pub values : List ℕ
  pub block : List ℕ

-- and the trip states
pub record Store : Type 0 where
  pub memory : Memory
  pub trips : Trips

abbrev pub memory_of : List ℕ → List ℕ → Memory
memory_of values block = record { values = values; block = block }

abbrev pub with_values : Memory → List ℕ → Memory
with_values m values = memory_of values m.block
