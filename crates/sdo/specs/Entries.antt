-- RULE: A GAUGE THAT IS GIVEN BY ITS ENTRIES, each named by index and subindex.
use Rattle.std.specs.Prelude.{ℕ, ◌<◌, ◌≡◌, List, length}
use Rattle.order.specs.Talk.{Read, value, denied, Sizes, closed, Outcome, declined}
use Rattle.order.specs.Gauge.{Gauge}
use Rattle.sdo.specs.declared.Key.{Key}
use Rattle.sdo.specs.Eight.{Code}

-- the gauge by its entries, an entry being named by index and subindex
pub record Entries : Type 1 where
  pub Store : Type 0
  pub Sample : Type 0
  pub read_whole : Store → Key → Read
  pub write_sizes : Key → Sizes
  pub commit : Store → Key → List ℕ → Outcome Store
  pub sampled : Store → Sample → Store

abbrev pub gauge : Entries → Gauge
gauge E = record { Store = E.Store; Key = Key; Name = Key; name_of = λ k. k; Sample = E.Sample; read_whole = E.read_whole; write_sizes = E.write_sizes; commit = E.commit; sampled = E.sampled }

-- what is asked of the entries: a value's length fits into four bytes (R5.3), and every code is one from 06020000 on
pub record Sound (E : Entries) : Type 0 where
  pub value_fits : (g : E.Store) (k : Key) (bytes : List ℕ) → E.read_whole g k ≡ value bytes → length bytes < 0x1_0000_0000
  pub read_code : (g : E.Store) (k : Key) (c : ℕ) → E.read_whole g k ≡ denied c → Code c
  pub row_code : (k : Key) (c : ℕ) → E.write_sizes k ≡ closed c → Code c
  pub commit_code : (g : E.Store) (k : Key) (bytes : List ℕ) (c : ℕ) → E.commit g k bytes ≡ declined c → Code c
