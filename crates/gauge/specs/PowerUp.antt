-- RULE: power-up (R9.1, R9.2). Trips and the lines' records are the board's. Assumes nothing.
use Rattle.std.specs.Prelude.{List, ℕ, replicate}
use Rattle.table.specs.Rows.{rows}
use Rattle.entry.specs.Entry.{defaults}
use Rattle.block.specs.Saved.{loadable, loaded}
use Rattle.gauge.specs.Memory.{Memory, memory_of}
use Rattle.gauge.specs.Masks.{heeding}

-- the saved block is taken, its masks too, or nothing of it (R4.4, R11.4)
unfoldable pub block_taken : List ℕ → List ℕ → List ℕ
block_taken block values = heeding (loadable block) (loaded block values)

-- the values after power-up; defaults alone have a summary that is right (R11.4, proofs/SummaryLaws.antt)
unfoldable pub fresh_values : List ℕ → List ℕ
fresh_values block = block_taken block (defaults rows (replicate 1024 0))

unfoldable pub powered_up : Memory → Memory
powered_up m = memory_of (fresh_values m.block) m.block
