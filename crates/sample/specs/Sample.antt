-- RULE: what a sample does to the values and to the trips (R10.1 to R10.10).
use Rattle.std.specs.Prelude.{cond, List, ℕ, ◌+◌, ◌*◌, Float}
use Rattle.std.specs.Float.{binary32}
use Rattle.std.specs.Float.Ieee.{to_bits}
use Rattle.wire.specs.Little.{put_number}
use Rattle.wire.specs.Flags.{is_set, bit}
use Rattle.wire.specs.Real.{real}
use Rattle.trip.specs.declared.Point.{Point}
use Rattle.trip.specs.declared.Trips.{Trips}
use Rattle.trip.specs.Trip.{usable_pressure, point_next, point_after}
use Rattle.table.specs.Places.{input_value, trip_input_1, trip_input_2, reading_valid, status_1, status_2, trip_outputs, settings_1, settings_2, high_enable, low_enable, high_level, low_level, high_hysteresis, low_hysteresis, power_on_time}
use Rattle.sample.specs.Faults.{with_faults, with_summary}

-- a trip point's settings, from their place on, as they stand now (R10.10, R3.6)
unfoldable pub settings : List ℕ → ℕ → Point
settings l at =
    record {
      high =
          record {
            level = real l (at + high_level);
            hysteresis = real l (at + high_hysteresis);
            enabled = is_set l (at + high_enable);
          };
      low =
          record {
            level = real l (at + low_level);
            hysteresis = real l (at + low_hysteresis);
            enabled = is_set l (at + low_enable);
          };
    }

-- both trip points, by the settings that stand in the values: one usable pressure on, and after any sample
unfoldable pub trips_next : List ℕ → Trips → Float → Trips
trips_next l was p =
    record {
      one = point_next (settings l settings_1) was.one p;
      two = point_next (settings l settings_2) was.two p;
    }

unfoldable pub trips_after : List ℕ → Trips → Float → ℕ → Trips
trips_after l was p valid =
    record {
      one = point_after (settings l settings_1) was.one p valid;
      two = point_after (settings l settings_2) was.two p valid;
    }

-- R10.4
abbrev pub with_pressure : Float → List ℕ → List ℕ
with_pressure p l =
    put_number (put_number (put_number (put_number l input_value 4 (to_bits binary32 p)) trip_input_1 4 (to_bits binary32 p)) trip_input_2 4 (to_bits binary32 p)) reading_valid 1 1

-- R10.3
abbrev pub with_none : List ℕ → List ℕ
with_none l = put_number l reading_valid 1 0

unfoldable pub with_reading : Float → ℕ → List ℕ → List ℕ
with_reading p valid l = cond (usable_pressure p valid) (with_pressure p l) (with_none l)

-- bits 0 to 3 of F641: trip point 1 high, low, trip point 2 high, low
unfoldable pub trip_word : Trips → ℕ
trip_word t = bit t.one.high + bit t.one.low * 2 + bit t.two.high * 4 + bit t.two.low * 8

-- the status entries show each side (R10.9)
unfoldable pub with_trip_entries : Trips → List ℕ → List ℕ
with_trip_entries t l =
    put_number
    (put_number (put_number (put_number (put_number l status_1 1 (bit t.one.high)) (status_1 + 1) 1 (bit t.one.low)) status_2 1 (bit t.two.high)) (status_2 + 1) 1 (bit t.two.low))
    trip_outputs
    4
    (trip_word t)

-- the values after a sample; seconds are copied (R10.1)
unfoldable pub values_after : List ℕ → Trips → Float → ℕ → ℕ → ℕ → List ℕ
values_after l was p valid faults seconds =
    put_number (with_summary (with_faults faults (with_trip_entries (trips_after l was p valid) (with_reading p valid l)))) power_on_time 4 seconds
