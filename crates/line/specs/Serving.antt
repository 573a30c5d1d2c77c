-- SHAPE: what the functions of a line are held to: replies and requests served, as crate order has them, in the lent bytes. Assumes nothing.
use Rattle.std.specs.Prelude.{ℕ, ◌+◌, ◌≤◌, ◌<◌, cond, List, ltb, ◌≡◌, length, Ok, Err}
use Rattle.wire.specs.Splice.{splice}
use Rattle.order.specs.Talk.{Answer, refused}
use Rattle.order.specs.Gauge.{too_long, too_short}
use Rattle.order.specs.Serve.{Reply, Served, remains}
use Rattle.order.specs.Keep.{Spoken, is_wiped, speak}
use Rattle.table.specs.Row.{RO}
use Rattle.table.specs.Rows.{row_count, at_row}
use Rattle.table.specs.Codes.{code_of}
use Rattle.gauge.specs.declared.commit.Accepted.TheVariants.{Plainly, Restarting}
use Rattle.gauge.specs.Endings.{Ending}
use Rattle.transfer.specs.declared.Transfer.{Transfer}
use Rattle.sdo.specs.declared.Key.{Key}
use Rattle.sdo.specs.Eight.{answer_of, eight_bytes}
use Rattle.transfer.specs.Records.{zero_record, key_at, lay, transfers}
use Rattle.state.specs.State.{state_size, record_size, record_at, record_bytes, fresh_state, settled}
use Rattle.line.specs.Gauge.{plain, store_of}

-- ---- where the memory stays: the state, and the room for the answer

pub record Laid : Type 0 where
  pub state : List ℕ
  pub answer : List ℕ

abbrev pub laid : List ℕ → List ℕ → Laid
laid state answer = record { state = state; answer = answer }

-- a line's next record at its place, and the answer's bytes at the head of the room
unfoldable pub put_down : ℕ → List ℕ → List ℕ → Transfer → List ℕ → Laid
put_down at state room next bytes = laid (splice state at (record_bytes next)) (splice room 0 bytes)

-- a reply, its record laid over b, the answer's bytes spelled so
unfoldable pub replied_as : (Answer Key → List ℕ) → ℕ → List ℕ → List ℕ → Transfer → Reply plain → Laid
unfolding put_down
replied_as spell at state room b r = put_down at state room (lay b r.next) (spell r.answer)

-- in eight bytes
abbrev pub replied : ℕ → List ℕ → List ℕ → Transfer → Reply plain → Laid
replied at state room b r = replied_as answer_of at state room b r

-- a whole write of a row that ended so: the answer that says yes stands in the room already, an abort takes its place
unfoldable pub ended_by : ℕ → ℕ → List ℕ → List ℕ → Ending → Laid
ended_by at row state room (Ok Plainly) = laid (splice state at (record_bytes zero_record)) room
ended_by at row state room (Ok Restarting) = laid (fresh_state state) room
ended_by at row state room (Err abort) = put_down at state room zero_record (answer_of (refused (key_at row) (code_of abort)))

-- the code for a length that does not fit, by the largest
abbrev pub misfit_code : ℕ → ℕ → ℕ
misfit_code high n = cond (ltb high n) too_long too_short

-- ---- with the memory

pub record Told : Type 0 where
  pub values : List ℕ
  pub block : List ℕ
  pub state : List ℕ
  pub answer : List ℕ

abbrev pub told : List ℕ → List ℕ → List ℕ → List ℕ → Told
told values block state answer = record { values = values; block = block; state = state; answer = answer }

unfoldable pub told_by : ℕ → List ℕ → List ℕ → Spoken plain transfers → Told
told_by at state room s = told s.store.memory.values s.store.memory.block (settled at s.next s.reset state) (splice room 0 s.bytes)

-- a request served, its record laid over b, the answer's bytes spelled so
abbrev pub spoken_as : (Answer Key → List ℕ) → Transfer → Served plain → Spoken plain transfers
spoken_as spell b s = record { store = s.store; next = lay b (remains s.after); reset = is_wiped s.after; bytes = spell s.answer }

abbrev pub spoken_over : Transfer → Served plain → Spoken plain transfers
spoken_over b s = spoken_as answer_of b s

-- a message m of the line whose record stands at a place
abbrev pub message_told : ℕ → List ℕ → List ℕ → List ℕ → List ℕ → List ℕ → Told
message_told at m values block state room = told_by at state room (speak plain transfers eight_bytes (store_of values block state) (record_at state at) m)

-- ---- what the functions are lent: the memory, the state with a record's place in it, the room

pub record Room (at : ℕ) (state answer : List ℕ) : Type 0 where
  pub inside : at + record_size ≤ length state
  pub long_enough : 8 ≤ length answer

pub record Ready (at : ℕ) (answer : List ℕ) : Type 0 where
  pub place : at + record_size ≤ state_size
  pub room : 8 ≤ length answer

-- a row that may be written
pub record Writable (row : ℕ) : Type 0 where
  pub there : row < row_count
  pub open_to_writes : (at_row row).access ≡ RO → ⊥
