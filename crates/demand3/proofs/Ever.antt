-- WHAT HOLDS OF THE VALUES EVER: from power-up, whatever calls come, if each step keeps it.
use Prim.Native.Nat.{ℕ, ◌<◌}
use mathlib.Core.Path.{◌≡◌, sym, subst}
use mathlib.Core.Bool.{Bool, false}
use mathlib.Core.List.{List}
use lib.Dec.{eqb}
use lib.Ieee.{Float}
use lib.ListN.{length}
use Rattle.order.specs.Serve.{Setup}
use Rattle.order.specs.Promise.{start}
use Rattle.order.specs.Bytes.{Call, after_all}
use Rattle.order.specs.Keep.{Keeps, RecordBoard, record_end, record_start}
use Rattle.order.proofs.Kept.{Shows, shows_start, shows_end}
use Rattle.table.specs.Row.{RO, COMMAND}
use Rattle.table.specs.Rows.{row_count, at_row}
use Rattle.trip.specs.declared.Trips.{Trips}
use Rattle.sample.specs.Sample.{values_after}
use Rattle.command.specs.Words.{with_status}
use Rattle.command.specs.Exceptions.{exceptions_cleared}
use Rattle.command.specs.declared.word.Command.{Command}
use Rattle.command.specs.declared.word.Command.TheVariants.{DeviceReset, ExceptionReset, StoreParameters, LoadParameters}
use Rattle.gauge.specs.Memory.{Memory, memory_of, with_values}
use Rattle.gauge.specs.Written.{with_value}
use Rattle.gauge.specs.PowerUp.{block_taken, fresh_values, powered_up}
use Rattle.gauge.specs.Commands.{done}
use Rattle.gauge.specs.Whole.{commit_row}
use Rattle.gauge.proofs.GaugeLaws.{cleared_length}
use Rattle.gauge.proofs.SummaryLaws.{taken-length}
use Rattle.board.specs.Calls.{boxed_by, power_up_call}
use Rattle.transfer.specs.Records.{transfers}
use Rattle.transfer.proofs.RecordLaws.{Whole}
use Rattle.demand3.specs.Firmware.{setup, Exported, history, final, power_on, calls_in, powered_store}
use Rattle.demand3.proofs.WholeWrites.{Passed, After, commit-after}
use Rattle.demand3.proofs.Lengths.{Long, Sized, fresh-sized, sample-sized, status_sized, done-sized, value-sized}
use Rattle.demand3.proofs.Bag552.{Holds, records_hold}
use Rattle.demand3.proofs.Calls.{powered_lengths, from_power_up}

-- what power-up gives and each step keeps
pub record Lasts (P : List ℕ → Type 0) : Type 0 where
  pub fresh : (block : List ℕ) → length block ≡ 512 → P (fresh_values block)
  pub sample : (values : List ℕ) (was : Trips) (p : Float) (valid faults seconds : ℕ) → Long values → P values → P (values_after values was p valid faults seconds)
  pub status : (c : Command) (code : ℕ) (values : List ℕ) → Long values → P values → P (with_status c code values)
  pub cleared : (values : List ℕ) → Long values → P values → P (exceptions_cleared values)
  pub taken : (block values : List ℕ) → length block ≡ 512 → Long values → P values → P (block_taken block values)
  pub written : (k : ℕ) → k < row_count → eqb (at_row k).access RO ≡ false → ((at_row k).kind ≡ COMMAND → ⊥) → (bytes : List ℕ) → length bytes ≡ (at_row k).len → (values : List ℕ) → Passed k bytes values → Long values → P values
      → P (with_value (at_row k) values bytes)

module _ (P : List ℕ → Type 0) (lasts : Lasts P) where
  record Upheld (m : Memory) : Type 0 where
    sized : Sized m
    upheld : P m.values

  fresh_upheld : (block : List ℕ) → length block ≡ 512 → Upheld (memory_of (fresh_values block) block)
  fresh_upheld block n = record { sized = fresh-sized block n; upheld = lasts.fresh block n }

  sample_upheld : (m : Memory) (was : Trips) (p : Float) (valid faults seconds : ℕ) → Upheld m → Upheld (with_values m (values_after m.values was p valid faults seconds))
  sample_upheld m was p valid faults seconds u =
      record {
        sized = sample-sized m was p valid faults seconds u.sized;
        upheld = lasts.sample m.values was p valid faults seconds u.sized.values_are u.upheld;
      }

  status_upheld : (c : Command) (code : ℕ) (values block : List ℕ) → Upheld (memory_of values block) → Upheld (memory_of (with_status c code values) block)
  status_upheld c code values block u =
      record {
        sized = status_sized c code values block u.sized;
        upheld = lasts.status c code values u.sized.values_are u.upheld;
      }

  done_upheld : (c : Command) (m : Memory) → Upheld m → After Upheld (done c m)
  unfolding done powered_up
  done_upheld DeviceReset m u = fresh_upheld m.block u.sized.block_is
  done_upheld ExceptionReset m u =
      let long = u.sized.values_are in
      record {
        sized = done-sized ExceptionReset m u.sized;
        upheld = lasts.status ExceptionReset 0 (exceptions_cleared m.values) (cleared_length m.values long) (lasts.cleared m.values long u.upheld);
      }
  done_upheld StoreParameters m u =
      record { sized = done-sized StoreParameters m u.sized; upheld = lasts.status StoreParameters _ m.values u.sized.values_are u.upheld }
  done_upheld LoadParameters m u =
      let long = u.sized.values_are in
      record {
        sized = done-sized LoadParameters m u.sized;
        upheld = lasts.status LoadParameters _ (block_taken m.block m.values) (taken-length m.block m.values long) (lasts.taken m.block m.values u.sized.block_is long u.upheld);
      }

  commit_upheld : (k : ℕ) → k < row_count → eqb (at_row k).access RO ≡ false → (bytes : List ℕ) → length bytes ≡ (at_row k).len → (m : Memory) → Upheld m → After Upheld (commit_row k bytes m)
  commit_upheld k there writable bytes size m u =
      commit-after Upheld k bytes m (λ c. done_upheld c m u) (λ c. status_upheld c 2 m.values m.block u)
      (λ n pass. record { sized = value-sized k there bytes size m u.sized n; upheld = lasts.written k there writable n bytes size m.values pass u.sized.values_are u.upheld })

  kept_upheld : (boxed : Bool) → Keeps (setup boxed) transfers (Holds Upheld (λ m u. u.sized.values_are) commit_upheld sample_upheld) Whole
  kept_upheld boxed = records_hold Upheld (λ m u. u.sized.values_are) commit_upheld sample_upheld boxed

  -- after every list of calls of the C firmware, whatever form power-up is given
  module _ (form : ℕ) (v b s : List ℕ) (zero-given : (power_up_call form v b s).number ≡ 0) where
    pub ever : (cs : List Exported) → P (final (power_on form v b s) cs).values
    ever cs = subst (λ (x : RecordBoard lines transfers). P x.store.memory.values) (sym (from_power_up form v b s zero-given cs).ends) shown.good.upheld
      where
        lines : Setup
        lines = setup (boxed_by form)

        ds : List (Call lines)
        ds = calls_in (boxed_by form) (history (power_on form v b s) cs)

        begun : RecordBoard lines transfers
        begun = record_start lines transfers (powered_store b)

        shown : Shows lines transfers (kept_upheld (boxed_by form)) (record_end lines transfers begun ds) (after_all lines (start lines (powered_store b)) ds)
        shown =
            shows_end lines transfers (kept_upheld (boxed_by form)) ds begun (start lines (powered_store b))
            (shows_start lines transfers (kept_upheld (boxed_by form)) (powered_store b) (fresh_upheld b (powered_lengths form v b s zero-given).0))
