-- THE BOARD'S GAUGE MEETS WHAT DEMAND 3 ASKS: its codes, its lengths, its rows; and so demand 3 for the board with its records by value.
use Prim.Native.Nat.{ℕ, ◌≤◌, ◌<◌}
use native.Mathlib.Omega.{arith}
use mathlib.Core.Path.{◌≡◌, refl, ap, subst, sym, ◌∙◌}
use mathlib.Core.Bool.{Bool, true, false, cond, not}
use mathlib.Core.List.{List}
use mathlib.Core.Option.{Option, none, some}
use lib.Dec.{eqb}
use lib.Ieee.{Float}
use lib.ListN.{length, length-take}
use borrow.Author.Tests.{ne_eqb}
use Rattle.order.specs.Talk.{Read, value, denied, Sizes, sizes, closed, Outcome, stored, restarted, declined}
use Rattle.order.specs.Gauge.{counted}
use Rattle.order.specs.Bytes.{Call, Clear}
use Rattle.order.specs.Keep.{Demand3Records, Keeps}
use Rattle.order.proofs.Kept.{demand3_records}
use Rattle.table.specs.Row.{Row, RO, WO, CARD, COMMAND, smallest, largest}
use Rattle.table.specs.Rows.{row_count, at_row}
use Rattle.table.specs.Rule.{held}
use Rattle.table.specs.Find.{Found, At, NoIndex, NoSub, find_row, row_number}
use Rattle.table.proofs.Lengths.{room-allowed, allowed-room}
use Rattle.table.proofs.Table.{row_rule, find_at}
use Rattle.limits.specs.Limits.{verdict_code}
use Rattle.entry.specs.Entry.{entry_of}
use Rattle.entry.proofs.RowLaws.{held-most}
use Rattle.card.proofs.Made.{length_card}
use Rattle.table.specs.Codes.{write_only, read_only}
use Rattle.gate.specs.Gates.{Way, to_row, no_way, gate, read_gate, write_gate}
use Rattle.command.specs.Words.{command_at, read_word, word_of, same_bytes}
use Rattle.command.specs.declared.word.Command.{Command}
use Rattle.command.specs.declared.word.Command.TheVariants.{DeviceReset, ExceptionReset, StoreParameters, LoadParameters}
use Rattle.trip.specs.declared.Trips.{Trips}
use Rattle.sample.specs.Sample.{values_after}
use Rattle.gauge.specs.Memory.{Memory, Store, with_values}
use Rattle.gauge.specs.Commands.{done, obeyed}
use Rattle.gauge.specs.Checks.{asked_last, Test, no_such_index, no_such_subindex, only_written, only_read, announced_long, announced_short, sent_long, sent_short, under_lock, no_number, too_high, too_low, crossed_1, crossed_2, code_of, last_order, refused_by, unless_refused}
use Rattle.gauge.specs.Whole.{value_of, effect, write_by, commit_row, with_trips, commit_whole}
use Rattle.gauge.proofs.ByGate.{read_through, sizes_of, commit_through, read_by_gate, sizes_by_gate, commit_by_gate}
use Rattle.gauge.proofs.ValueLaws.{value-length}
use Rattle.gauge.proofs.SummaryLaws.{fresh-length}
use Rattle.sdo.specs.declared.Key.{Key}
use Rattle.transfer.specs.declared.Direction.TheVariants.{Reads, Writes}
use Rattle.sdo.specs.Eight.{Code}
use Rattle.sdo.specs.Entries.{Sound}
use Rattle.sdo.proofs.Carries.{Coded, CodedSizes}
use Rattle.mailbox.proofs.LineLaws.{clear}
use Rattle.transfer.specs.Records.{allows, RowOf, transfers, GoodAfter, Rows}
use Rattle.transfer.proofs.RecordLaws.{Whole}
use Rattle.transfer.proofs.Kept.{keeps}
use Rattle.line.specs.Gauge.{sampled, bag552}
use Rattle.demand3.specs.Firmware.{setup, powered_store}
use Rattle.demand3.proofs.WholeWrites.{After}
use Rattle.demand3.proofs.Lengths.{Sized, sample-sized, commit-sized}

-- ---- codes and lengths

code : (c : ℕ) → c < 0x1_0000_0000 → 0x05040001 < c → Code c
code c h k = record { fits = h; not_transfer = ne c 0x05040001 (omega arith); ends = ne c 0x05030000 (omega arith) }
  where
    ne : (a b : ℕ) → b < a → eqb a b ≡ false
    ne a b q = ne_eqb a b (λ e. omega arith)

-- a way: its row is in the table, its code is one from 06020000 on
WayOk : Way → Type 0
WayOk (to_row r) = r < row_count
WayOk (no_way c) = Code c

gate_ok : (barred c i s : ℕ) (f : Found) → Code c → find_row i s ≡ f → WayOk (gate barred c f)
unfolding WayOk gate
gate_ok barred c i s (At r) k e = go (eqb (at_row r).access barred)
  where
    go : (b : Bool) → WayOk (cond b (no_way c) (to_row r))
    go true = k
    go false = (find_at i s r e).there
gate_ok barred c i s NoIndex k e = code 0x06020000 (omega arith) (omega arith)
gate_ok barred c i s NoSub k e = code 0x06090011 (omega arith) (omega arith)

ReadOk : Read → Type 0
ReadOk (value bytes) = length bytes < 0x1_0000_0000
ReadOk (denied c) = Code c

word_short : (c : Command) → length (read_word c) ≤ 6
unfolding read_word
word_short DeviceReset = omega arith
word_short ExceptionReset = omega arith
word_short StoreParameters = omega arith
word_short LoadParameters = omega arith

short-cond : (b : Bool) (x y : List ℕ) → length x ≤ 64 → length y ≤ 64 → length (cond b x y) ≤ 64
short-cond true x y h k = h
short-cond false x y h k = k

value-short : (r : ℕ) → r < row_count → (values : List ℕ) → length (value_of (at_row r) values) ≤ 64
unfolding value_of entry_of
value-short r h values =
    let m : held (at_row r) ≤ 64 = held-most (at_row r) (row_rule r h) in
    short-cond (eqb (at_row r).kind CARD) _ _ (rw (length_card values) (omega arith))
    (short-cond (eqb (at_row r).kind COMMAND) _ _ (omega (arith, word_short (command_at (at_row r).index))) (rw length-take (omega arith)))

read_ok : (w : Way) (values : List ℕ) → WayOk w → ReadOk (read_through w values)
unfolding WayOk ReadOk read_through
read_ok (to_row r) values h = omega (arith, value-short r h values)
read_ok (no_way c) values h = h

sizes_ok : (w : Way) → WayOk w → CodedSizes (sizes_of w)
unfolding WayOk CodedSizes sizes_of
sizes_ok (to_row r) h = tt
sizes_ok (no_way c) h = h

ok_cond : {S : Type 0} (b : Bool) (x y : Outcome S) → Coded x → Coded y → Coded (cond b x y)
ok_cond true x y h k = h
ok_cond false x y h k = k

done_ok : (c : Command) (m : Memory) → Coded (done c m)
unfolding Coded done
done_ok DeviceReset m = tt
done_ok ExceptionReset m = tt
done_ok StoreParameters m = tt
done_ok LoadParameters m = tt

effect_ok : (r : Row) (bytes : List ℕ) (m : Memory) → Coded (effect r bytes m)
unfolding Coded effect obeyed
effect_ok r bytes m =
    ok_cond (eqb r.kind COMMAND) _ _ (ok_cond (same_bytes bytes (word_of (command_at r.index))) _ _ (done_ok (command_at r.index) m) tt) tt

-- every test's code
test_code : (t : Test) → Code (code_of t)
unfolding code_of verdict_code
test_code no_such_index = code 0x06020000 (omega arith) (omega arith)
test_code no_such_subindex = code 0x06090011 (omega arith) (omega arith)
test_code only_written = code 0x06010001 (omega arith) (omega arith)
test_code only_read = code 0x06010002 (omega arith) (omega arith)
test_code announced_long = code 0x06070012 (omega arith) (omega arith)
test_code announced_short = code 0x06070013 (omega arith) (omega arith)
test_code sent_long = code 0x06070012 (omega arith) (omega arith)
test_code sent_short = code 0x06070013 (omega arith) (omega arith)
test_code under_lock = code 0x08000022 (omega arith) (omega arith)
test_code no_number = code 0x06090030 (omega arith) (omega arith)
test_code too_high = code 0x06090031 (omega arith) (omega arith)
test_code too_low = code 0x06090032 (omega arith) (omega arith)
test_code crossed_1 = code 0x06090036 (omega arith) (omega arith)
test_code crossed_2 = code 0x06090036 (omega arith) (omega arith)

unless_ok : (o : Option Test) (x : Outcome Memory) → Coded x → Coded (unless_refused o declined x)
unfolding Coded unless_refused
unless_ok none x h = h
unless_ok (some t) x h = test_code t

trips_ok : (g : Store) (o : Outcome Memory) → Coded o → Coded (with_trips g o)
unfolding Coded with_trips
trips_ok g (stored m) h = tt
trips_ok g (restarted m) h = tt
trips_ok g (declined c) h = h

commit_ok : (w : Way) (g : Store) (bytes : List ℕ) → WayOk w → Coded (commit_through w g bytes)
unfolding WayOk Coded commit_through commit_row write_by counted row_number
commit_ok (to_row r) g bytes h =
    trips_ok g (commit_row r bytes g.memory)
    (unless_ok (refused_by (asked_last r bytes g.memory.values) last_order) (effect (at_row r) bytes g.memory) (effect_ok (at_row r) bytes g.memory))
commit_ok (no_way c) g bytes h = h

read_gate_ok : (k : Key) → WayOk (read_gate (find_row k.index k.sub))
read_gate_ok k = gate_ok WO write_only k.index k.sub (find_row k.index k.sub) (code write_only (omega arith) (omega arith)) refl

write_gate_ok : (k : Key) → WayOk (write_gate (find_row k.index k.sub))
write_gate_ok k = gate_ok RO read_only k.index k.sub (find_row k.index k.sub) (code read_only (omega arith) (omega arith)) refl

pub sound : Sound bag552
unfolding ReadOk CodedSizes Coded
sound =
    record {
      value_fits = λ g k bytes e. subst ReadOk (sym (read_by_gate k.index k.sub g) ∙ e) (read_ok (read_gate (find_row k.index k.sub)) g.memory.values (read_gate_ok k));
      read_code = λ g k c e. subst ReadOk (sym (read_by_gate k.index k.sub g) ∙ e) (read_ok (read_gate (find_row k.index k.sub)) g.memory.values (read_gate_ok k));
      row_code = λ k c e. subst CodedSizes (sym (sizes_by_gate k.index k.sub) ∙ e) (sizes_ok (write_gate (find_row k.index k.sub)) (write_gate_ok k));
      commit_code = λ g k bytes c e. subst Coded (sym (commit_by_gate k.index k.sub g bytes) ∙ e) (commit_ok (write_gate (find_row k.index k.sub)) g bytes (write_gate_ok k));
    }

-- ---- rows

module _ (k : Key) where
  ReadRow : Read → Type 0
  ReadRow (value bytes) = RowOf Reads k (length bytes)
  ReadRow (denied c) = Unit {0}

  read_row : (f : Found) (values : List ℕ) → length values ≡ 1024 → find_row k.index k.sub ≡ f → ReadRow (read_through (read_gate f) values)
  unfolding ReadRow read_through gate allows
  read_row (At r) values n e = go (eqb (at_row r).access WO) refl
    where
      there : r < row_count
      there = (find_at k.index k.sub r e).there

      go : (b : Bool) → eqb (at_row r).access WO ≡ b → ReadRow (read_through (cond b (no_way write_only) (to_row r)) values)
      go true q = tt
      go false q =
          record {
            row = r;
            found = e;
            allowed = ap not q;
            fitting_length = room-allowed (at_row r) (value-length r there values n);
          }
  read_row NoIndex values n e = tt
  read_row NoSub values n e = tt

  WriteRow : Sizes → Type 0
  WriteRow (sizes low high) = (low ≡ high) × RowOf Writes k high
  WriteRow (closed c) = Unit {0}

  write_row : (f : Found) → find_row k.index k.sub ≡ f → WriteRow (sizes_of (write_gate f))
  unfolding WriteRow sizes_of gate smallest largest allows
  write_row (At r) e = go (eqb (at_row r).access RO) refl
    where
      there : r < row_count
      there = (find_at k.index k.sub r e).there

      go : (b : Bool) → eqb (at_row r).access RO ≡ b → WriteRow (sizes_of (cond b (no_way read_only) (to_row r)))
      go true q = tt
      go false q = (
        refl,
        record {
          row = r;
          found = e;
          allowed = ap not q;
          fitting_length = room-allowed (at_row r) refl;
        },
      )
  write_row NoIndex e = tt
  write_row NoSub e = tt

-- what whole writes and samples keep of the memory, the two lines' records keep
module _ (I : Memory → Type 0) (sized : (m : Memory) → I m → length m.values ≡ 1024)
    (writes : (k : ℕ) → k < row_count → eqb (at_row k).access RO ≡ false → (bytes : List ℕ) → length bytes ≡ (at_row k).len → (m : Memory) → I m → After I (commit_row k bytes m))
    (samples : (m : Memory) (was : Trips) (p : Float) (valid faults seconds : ℕ) → I m → I (with_values m (values_after m.values was p valid faults seconds))) where
  abbrev pub Holds : Store → Type 0
  Holds g = I g.memory

  trips_hold : (g : Store) (o : Outcome Memory) → After I o → GoodAfter bag552 Holds (with_trips g o)
  unfolding with_trips
  trips_hold g (stored m) h = h
  trips_hold g (restarted m) h = h
  trips_hold g (declined c) h = tt

  commit-holds : (g : Store) (k : Key) (bytes : List ℕ) → Holds g → RowOf Writes k (length bytes) → GoodAfter bag552 Holds (commit_whole g k.index k.sub bytes)
  unfolding commit_through gate
  commit-holds g k bytes ok w = rw (commit_by_gate k.index k.sub g bytes, w.found) (go (eqb (at_row w.row).access RO) refl)
    where
      go : (b : Bool) → eqb (at_row w.row).access RO ≡ b → GoodAfter bag552 Holds (commit_through (cond b (no_way read_only) (to_row w.row)) g bytes)
      go true e = tt
      go false e =
          trips_hold g (commit_row w.row bytes g.memory)
          (writes w.row (find_at k.index k.sub w.row w.found).there e bytes (allowed-room (at_row w.row) w.fitting_length) g.memory ok)

  pub rows_hold : Rows bag552 Holds
  unfolding ReadRow WriteRow sampled
  rows_hold =
      record {
        read_row = λ g k bytes ok e. subst (ReadRow k) (sym (read_by_gate k.index k.sub g) ∙ e) (read_row k (find_row k.index k.sub) g.memory.values (sized g.memory ok) refl);
        write_row = λ k low high e. subst (WriteRow k) (sym (sizes_by_gate k.index k.sub) ∙ e) (write_row k (find_row k.index k.sub) refl);
        commit_good = commit-holds;
        sample_good = λ g s ok. samples g.memory g.trips s.pressure s.valid s.faults s.seconds ok;
      }

  pub records_hold : (boxed : Bool) → Keeps (setup boxed) transfers Holds Whole
  records_hold boxed = keeps bag552 rows_hold (setup boxed).wires (setup boxed).speech

-- the store's bytes are as many as the table and the block have places for
abbrev pub GoodStore : Store → Type 0
GoodStore g = Sized g.memory

pub real-rows : Rows bag552 GoodStore
real-rows = rows_hold Sized (λ m s. s.values_are) (λ k h e bytes n m s. commit-sized k h bytes n m s) sample-sized

pub powered-good : (block : List ℕ) → length block ≡ 512 → GoodStore (powered_store block)
powered-good block n = record { values_are = fresh-length _; block_is = n }

-- however line 0 speaks
module _ (boxed : Bool) where
  -- what the two lines keep in their records
  pub kept-records : Keeps (setup boxed) transfers GoodStore Whole
  kept-records = keeps bag552 real-rows (setup boxed).wires (setup boxed).speech

  -- a client reads in every answer what the board meant
  pub all-clear : Clear (setup boxed)
  all-clear = clear bag552 sound boxed

  -- THEOREM: demand 3 for the board with its records by value, for every list of messages and samples from power-up
  pub demand3_board : (block : List ℕ) → length block ≡ 512 → (cs : List (Call (setup boxed))) → Demand3Records (setup boxed) transfers (powered_store block) cs
  demand3_board block n cs = demand3_records (setup boxed) transfers kept-records all-clear (powered_store block) (powered-good block n) cs
