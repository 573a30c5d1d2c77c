-- LENGTHS STAY: the values have 1,024 bytes and the block 512 after every whole write of a row's length, every sample and every power-up.
use Prim.Native.Nat.{ℕ, ◌+◌, ◌<◌}
use mathlib.Core.Path.{◌≡◌, refl, sym, ◌∙◌}
use mathlib.Core.Bool.{Bool, true, false, cond}
use mathlib.Core.List.{List}
use lib.Dec.{leb}
use lib.Ieee.{Float}
use lib.ListN.{length}
use Rattle.wire.specs.Little.{put_number}
use Rattle.wire.proofs.LittleLaws.{put_length}
use Rattle.table.specs.Row.{COMMAND}
use Rattle.table.specs.Rows.{row_count, at_row}
use Rattle.table.specs.Places.{input_value, trip_input_1, trip_input_2, reading_valid, status_1, status_2, trip_outputs, sensor_error, active_word, latched_word, power_on_time}
use Rattle.trip.specs.Trip.{usable_pressure}
use Rattle.trip.specs.declared.Trips.{Trips}
use Rattle.card.proofs.Stored.{with_card-length}
use Rattle.block.specs.Saved.{stored_block}
use Rattle.block.proofs.Theorems.{length-stored}
use Rattle.sample.specs.Faults.{with_faults}
use Rattle.sample.specs.Sample.{trips_after, with_reading, with_trip_entries, values_after}
use Rattle.command.specs.Words.{with_status}
use Rattle.command.specs.Exceptions.{exceptions_cleared}
use Rattle.command.specs.declared.word.Command.{Command}
use Rattle.command.specs.declared.word.Command.TheVariants.{DeviceReset, ExceptionReset, StoreParameters, LoadParameters}
use Rattle.gauge.specs.Memory.{Memory, memory_of, with_values}
use Rattle.gauge.specs.Written.{with_value}
use Rattle.gauge.specs.PowerUp.{block_taken, fresh_values, powered_up}
use Rattle.gauge.specs.Commands.{done}
use Rattle.gauge.specs.Whole.{commit_row}
use Rattle.gauge.proofs.CommitLaws.{other_held}
use Rattle.gauge.proofs.WrittenLaws.{by_card}
use Rattle.gauge.proofs.GaugeLaws.{status_length, cleared_length}
use Rattle.gauge.proofs.SummaryLaws.{summary_length, written-length, taken-length, fresh-length}
use Rattle.demand3.proofs.WholeWrites.{After, commit-after}

abbrev pub Long : List ℕ → Type 0
Long l = length l ≡ 1024

put_long : (l : List ℕ) (at n v : ℕ) → leb (at + n) 1024 ≡ true → Long l → Long (put_number l at n v)
put_long l at n v h e = put_length l at n v (rw e h) ∙ e

long_cond : (b : Bool) (x y : List ℕ) → Long x → Long y → Long (cond b x y)
long_cond true x y h k = h
long_cond false x y h k = k

-- ---- a sample

reading_long : (p : Float) (valid : ℕ) (l : List ℕ) → Long l → Long (with_reading p valid l)
unfolding with_reading
reading_long p valid l e =
    long_cond (usable_pressure p valid) _ _
    (put_long _ reading_valid 1 _ refl (put_long _ trip_input_2 4 _ refl (put_long _ trip_input_1 4 _ refl (put_long l input_value 4 _ refl e))))
    (put_long l reading_valid 1 0 refl e)

trips_long : (t : Trips) (l : List ℕ) → Long l → Long (with_trip_entries t l)
unfolding with_trip_entries
trips_long t l e =
    put_long _ trip_outputs 4 _ refl
    (put_long _ (status_2 + 1) 1 _ refl (put_long _ status_2 1 _ refl (put_long _ (status_1 + 1) 1 _ refl (put_long l status_1 1 _ refl e))))

faults_long : (faults : ℕ) (l : List ℕ) → Long l → Long (with_faults faults l)
unfolding with_faults
faults_long faults l e = put_long _ latched_word 4 _ refl (put_long _ active_word 4 _ refl (put_long l sensor_error 2 _ refl e))

values_long : (l : List ℕ) (was : Trips) (p : Float) (valid faults seconds : ℕ) → length l ≡ 1024 → length (values_after l was p valid faults seconds) ≡ 1024
unfolding values_after
values_long l was p valid faults seconds e =
    put_long _ power_on_time 4 seconds refl
    (summary_length _ (faults_long faults _ (trips_long (trips_after l was p valid) _ (reading_long p valid l e))))

-- ---- the memory

-- its bytes are as many as the table and the block have places for
pub record Sized (m : Memory) : Type 0 where
  pub values_are : length m.values ≡ 1024
  pub block_is : length m.block ≡ 512

pub fresh-sized : (block : List ℕ) → length block ≡ 512 → Sized (memory_of (fresh_values block) block)
fresh-sized block n = record { values_are = fresh-length _; block_is = n }

pub sample-sized : (m : Memory) (was : Trips) (p : Float) (valid faults seconds : ℕ) → Sized m → Sized (with_values m (values_after m.values was p valid faults seconds))
sample-sized m was p valid faults seconds s = record { values_are = values_long m.values was p valid faults seconds s.values_are; block_is = s.block_is }

-- a command's status
pub status_sized : (c : Command) (code : ℕ) (values block : List ℕ) → Sized (memory_of values block) → Sized (memory_of (with_status c code values) block)
status_sized c code values block s = record { values_are = status_length c code values s.values_are; block_is = s.block_is }

pub done-sized : (c : Command) (m : Memory) → Sized m → After Sized (done c m)
unfolding done powered_up
done-sized DeviceReset m s = fresh-sized m.block s.block_is
done-sized ExceptionReset m s =
    status_sized ExceptionReset 0 (exceptions_cleared m.values) m.block (record { values_are = cleared_length m.values s.values_are; block_is = s.block_is })
done-sized StoreParameters m s =
    status_sized StoreParameters _ m.values (stored_block m.values m.block) (record { values_are = s.values_are; block_is = length-stored m.values m.block s.block_is })
done-sized LoadParameters m s =
    status_sized LoadParameters _ (block_taken m.block m.values) m.block (record { values_are = taken-length m.block m.values s.values_are; block_is = s.block_is })

module _ (k : ℕ) (there : k < row_count) (bytes : List ℕ) (size : length bytes ≡ (at_row k).len) (m : Memory) (s : Sized m) where
  pub value-sized : ((at_row k).kind ≡ COMMAND → ⊥) → Sized (with_values m (with_value (at_row k) m.values bytes))
  value-sized n =
      record {
        values_are =
            by_card (at_row k) m.values bytes Long (λ c. with_card-length m.values bytes s.values_are) (λ c. written-length k there m.values bytes s.values_are (size ∙ sym (other_held k there c n)));
        block_is = s.block_is;
      }

  pub commit-sized : After Sized (commit_row k bytes m)
  commit-sized = commit-after Sized k bytes m (λ c. done-sized c m s) (λ c. status_sized c 2 m.values m.block s) (λ n pass. value-sized n)
