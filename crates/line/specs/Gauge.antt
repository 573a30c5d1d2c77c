-- RULE: THE BOARD'S GAUGE: the plain gauge by its entries, as the lines are served with it. Assumes nothing.
use Rattle.std.specs.Prelude.{ℕ, List, Float}
use Rattle.sample.specs.Sample.{values_after, trips_after}
use Rattle.order.specs.Gauge.{Gauge}
use Rattle.sdo.specs.Entries.{Entries, gauge}
use Rattle.state.specs.State.{trips_at}
use Rattle.gauge.specs.Memory.{Store, memory_of, with_values}
use Rattle.gauge.specs.Whole.{read_whole, commit_whole, write_sizes}

-- a sample (R10.1)
pub record Sample : Type 0 where
  pub pressure : Float
  pub valid : ℕ
  pub faults : ℕ
  pub seconds : ℕ

unfoldable pub sampled : Store → Sample → Store
sampled g s =
    record {
      memory = with_values g.memory (values_after g.memory.values g.trips s.pressure s.valid s.faults s.seconds);
      trips = trips_after g.memory.values g.trips s.pressure s.valid;
    }

abbrev pub bag552 : Entries
bag552 =
    record {
      Store = Store;
      Sample = Sample;
      read_whole = λ g k. read_whole g k.index k.sub;
      write_sizes = λ k. write_sizes k.index k.sub;
      commit = λ g k bytes. commit_whole g k.index k.sub bytes;
      sampled = sampled;
    }

abbrev pub plain : Gauge
plain = gauge bag552

-- the store that the lent bytes stand for
abbrev pub store_of : List ℕ → List ℕ → List ℕ → Store
store_of values block state = record { memory = memory_of values block; trips = trips_at state }
