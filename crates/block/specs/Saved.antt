-- RULE: the saved block of the BAG552: a load takes it whole or leaves the values (R4.4, R8.5), a store writes it or leaves it (R8.6).
use Rattle.std.specs.Prelude.{Bool, cond, ◌&&◌, List, ℕ, replicate}
use Rattle.bits.specs.Bits.{bits, packed}
use Rattle.block.specs.Block.{BAG552, nv_rows, values_good, load_rows, block_of, good}
use Rattle.crossed.specs.Crossed.{straight}
use Rattle.table.specs.Row.{Row}
use Rattle.table.specs.Rows.{rows}

abbrev pub saved_rows : List Row
saved_rows = nv_rows rows

-- may the values be stored? (R8.6) All NV entries are within their limits, and no trip point is crossed (R3.7).
unfoldable pub storable : List ℕ → Bool
storable values = values_good values saved_rows && straight values

-- the block after a store
unfoldable pub stored_block : List ℕ → List ℕ → List ℕ
stored_block values block = cond (storable values) (packed 512 (block_of BAG552 values saved_rows)) block

-- do its entries, put into these values, leave no trip point crossed? (R3.7)
abbrev pub leaves_straight : List ℕ → List ℕ → Bool
leaves_straight block values = straight (load_rows (bits block) 8 saved_rows values)

-- is a block not faulty? (R4.3) Over zeros or any other values that is the same (proofs/Straight `loadable-over`).
unfoldable pub loadable : List ℕ → Bool
loadable block = good BAG552 (bits block) saved_rows && leaves_straight block (replicate 1024 0)

-- the values after a load
unfoldable pub loaded : List ℕ → List ℕ → List ℕ
loaded block values = cond (loadable block) (load_rows (bits block) 8 saved_rows values) values
