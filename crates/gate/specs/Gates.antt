-- SHAPE: what the table says of a key before a value is looked at (R7.3, R7.4). Assumes nothing.
use Rattle.std.specs.Prelude.{cond, ℕ, eqb, Result, Ok, Err}
use Rattle.table.specs.Row.{RO, WO}
use Rattle.table.specs.Rows.{at_row}
use Rattle.table.specs.Find.{Found, At, NoIndex, NoSub}
use Rattle.table.specs.Codes.{index_absent, subindex_absent, write_only, read_only, code_of}
use Rattle.table.specs.declared.code.AbortCode.{AbortCode}

-- where a key leads: to a row, or no way, and the code says why
pub data Way : Type 0 where
  to_row : ℕ → Way
  no_way : ℕ → Way

-- rows of one access are barred
unfoldable pub gate : ℕ → ℕ → Found → Way
gate barred code (At r) = cond (eqb (at_row r).access barred) (no_way code) (to_row r)
gate barred code NoIndex = no_way index_absent
gate barred code NoSub = no_way subindex_absent

abbrev pub read_gate : Found → Way
read_gate found = gate WO write_only found

abbrev pub write_gate : Found → Way
write_gate found = gate RO read_only found

-- as the code says it: a row is its number
unfoldable pub way_of : Result ℕ AbortCode → Way
way_of (Ok r) = to_row r
way_of (Err abort) = no_way (code_of abort)
