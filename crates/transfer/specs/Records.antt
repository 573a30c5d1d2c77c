-- RULE: A LINE'S TRANSFER IN ITS RECORD. The struct `Transfer` is the code's own: of a read `held` begins with the value, of a write with
-- the bytes sent (R6.4). `transfers` keeps a transfer in it, as crate order asks.
use Rattle.std.specs.Prelude.{ℕ, ◌≡◌, Bool, true, false, cond, not, ◌&&◌, List, ◌++◌, eqb, leb, ltb, length, take, drop, replicate}
use Rattle.order.specs.Talk.{Request, open_read, next_part, expedited, open_write, send_part, give_up, unknown, value, sizes, Outcome, stored, restarted, declined, Pending, idle, reading, writing}
use Rattle.order.specs.Keep.{Keeping}
use Rattle.table.specs.Rows.{row_count, at_row}
use Rattle.table.specs.Row.{RO, WO, smallest, largest, Allowed}
use Rattle.table.specs.Find.{At, find_row, row_number}
use Rattle.sdo.specs.declared.Key.{Key}
use Rattle.sdo.specs.Entries.{Entries}
use Rattle.transfer.specs.declared.Direction.{Direction}
use Rattle.transfer.specs.declared.Direction.TheVariants.{Neither, Reads, Writes}
use Rattle.transfer.specs.declared.Transfer.{Transfer}

-- R6.4
abbrev pub zero_record : Transfer
zero_record = record { held = replicate 64 0; row = 0; direction = Neither; len = 0; place = 0; toggle = false }

-- the entry of a row, and the row of an entry
abbrev pub key_at : ℕ → Key
key_at row = record { index = (at_row row).index; sub = (at_row row).sub }

abbrev pub row_of : Key → ℕ
row_of k = row_number (find_row k.index k.sub)

-- does an access allow the direction?
unfoldable pub allows : Direction → ℕ → Bool
allows Neither access = false
allows Reads access = not (eqb access WO)
allows Writes access = not (eqb access RO)

-- the entry has a row that allows the direction, and a value of it may have this length
pub record RowOf (d : Direction) (k : Key) (n : ℕ) : Type 0 where
  pub row : ℕ
  pub found : find_row k.index k.sub ≡ At row
  pub allowed : allows d (at_row row).access ≡ true
  pub fitting_length : Allowed (at_row row) n

-- does a record count? (R6.5)
abbrev pub fitting : ℕ → Direction → ℕ → ℕ → Bool
fitting row d len place = ltb row row_count && (allows d (at_row row).access && ((leb (smallest (at_row row)) len && leb len (largest (at_row row))) && leb place len))

unfoldable pub counts : Transfer → Bool
unfolding allows
counts t = fitting t.row t.direction t.len t.place

unfoldable pub pending : Direction → Transfer → Pending Key
pending Neither t = idle
pending Reads t = reading (key_at t.row) (take t.len t.held) t.place t.toggle
pending Writes t = writing (key_at t.row) t.len t.len (take t.place t.held) t.toggle

-- the transfer that a record stands for
unfoldable pub view : Transfer → Pending Key
unfolding counts pending
view t = cond (counts t) (pending t.direction t) idle

-- what a line's next record is laid over: an opening starts from zeros (R6.4) with the entry's row; a part goes on with the record
abbrev pub zero_record_at : ℕ → Transfer
zero_record_at row = record { held = replicate 64 0; row = row; direction = Neither; len = 0; place = 0; toggle = false }

unfoldable pub base : Transfer → Request Key → Transfer
unfolding row_number
base t (open_read k) = zero_record_at (row_of k)
base t (next_part u) = t
base t (expedited k s bytes) = zero_record
base t (open_write k n bytes) = zero_record_at (row_of k)
base t (send_part u bytes last) = t
base t give_up = zero_record
base t unknown = zero_record

-- the record of a transfer, laid over another; no transfer is zeros (R6.4)
unfoldable pub lay : Transfer → Pending Key → Transfer
lay t idle = zero_record
lay t (reading k bytes place toggle) =
    record { held = bytes ++ drop (length bytes) t.held; row = t.row; direction = Reads; len = length bytes; place = place; toggle = toggle }
lay t (writing k low high sent toggle) =
    record { held = sent ++ drop (length sent) t.held; row = t.row; direction = Writes; len = high; place = length sent; toggle = toggle }

-- how a line keeps its transfer
abbrev pub transfers : Keeping Key
transfers = record { Record = Transfer; empty = zero_record; view = view; lay = λ t a x. lay (base t a) x }

-- `Good` is what is asked of the store: its bytes are as many as the table has places for
module _ (E : Entries) (Good : E.Store → Type 0) where
  -- the store that an accepted write leaves is good
  abbrev pub GoodAfter : Outcome E.Store → Type 0
  GoodAfter (stored g) = Good g
  GoodAfter (restarted g) = Good g
  GoodAfter (declined c) = Unit {0}

  -- what is asked of the entries: a value that is read, and an entry that may be written, have a row that allows it and such a length.
  -- Whole writes of an allowed length and samples keep the store good
  pub record Rows : Type 0 where
    pub read_row : (g : E.Store) (k : Key) (bytes : List ℕ) → Good g → E.read_whole g k ≡ value bytes → RowOf Reads k (length bytes)
    pub write_row : (k : Key) (low high : ℕ) → E.write_sizes k ≡ sizes low high → (low ≡ high) × RowOf Writes k high
    pub commit_good : (g : E.Store) (k : Key) (bytes : List ℕ) → Good g → RowOf Writes k (length bytes) → GoodAfter (E.commit g k bytes)
    pub sample_good : (g : E.Store) (s : E.Sample) → Good g → Good (E.sampled g s)
