-- RULE: the state bytes, as docs/STATE.md lays them out (R14.1): both transfer records, the trip states and the form of line 0. Assumes nothing.
use Rattle.std.specs.Prelude.{Bool, cond, List, ◌++◌, ℕ, ◌+◌, ◌*◌, eqb, take, drop}
use Rattle.wire.specs.Little.{little, number}
use Rattle.wire.specs.Flags.{is_set, bit, flags}
use Rattle.wire.specs.Splice.{splice}
use Rattle.trip.specs.declared.Trips.{Trips}
use Rattle.trip.specs.Trip.{all_off}
use Rattle.transfer.specs.declared.Direction.{Direction}
use Rattle.transfer.specs.declared.Direction.TheVariants.{Neither, Reads, Writes}
use Rattle.transfer.specs.declared.Transfer.{Transfer}
use Rattle.transfer.specs.Records.{zero_record}

-- how many they are, and how many a record has
abbrev pub state_size : ℕ
state_size = 256

abbrev pub record_size : ℕ
record_size = 70

-- line 0's record, then line 1's
abbrev pub record_place : ℕ → ℕ
record_place line = 96 * line

abbrev pub trips_place : ℕ
trips_place = 192

abbrev pub form_place : ℕ
form_place = 196

-- direction: 1 read, 2 write, any other value none
unfoldable pub direction_of : ℕ → Direction
direction_of n = cond (eqb n 1) Reads (cond (eqb n 2) Writes Neither)

unfoldable pub direction_byte : Direction → ℕ
direction_byte Neither = 0
direction_byte Reads = 1
direction_byte Writes = 2

-- the record that stands from a byte on
unfoldable pub record_at : List ℕ → ℕ → Transfer
record_at s at =
    record {
      held = take 64 (drop at s);
      row = number s (at + 64) 2;
      direction = direction_of (number s (at + 66) 1);
      len = number s (at + 67) 1;
      place = number s (at + 68) 1;
      toggle = is_set s (at + 69);
    }

-- what stands behind its held bytes, and all its 70 bytes
unfoldable pub record_tail : Transfer → List ℕ
record_tail t =
    little 2 t.row ++ (little 1 (direction_byte t.direction) ++ (little 1 t.len ++ (little 1 t.place ++ little 1 (bit t.toggle))))

unfoldable pub record_bytes : Transfer → List ℕ
record_bytes t = t.held ++ record_tail t

-- the trip states: point 1 high and low, point 2 high and low (R14.2)
unfoldable pub trips_at : List ℕ → Trips
trips_at s =
    record {
      one = record { high = is_set s trips_place; low = is_set s (trips_place + 1) };
      two = record { high = is_set s (trips_place + 2); low = is_set s (trips_place + 3) };
    }

unfoldable pub trips_bytes : Trips → List ℕ
trips_bytes t = flags t.one.high t.one.low t.two.high t.two.low

-- does the tool's line speak in mailboxes? (R14.3)
unfoldable pub form_at : List ℕ → Bool
form_at s = is_set s form_place

abbrev pub form_bytes : Bool → List ℕ
form_bytes boxed = little 1 (bit boxed)

-- power-up and device reset (R9.3); the form stays
unfoldable pub fresh_state : List ℕ → List ℕ
fresh_state state = splice (splice (splice state (record_place 0) (record_bytes zero_record)) (record_place 1) (record_bytes zero_record)) trips_place (trips_bytes all_off)

-- a message leaves its line's next record; a device reset drops both lines' transfers (R8.8). All else of the state stays (R6.1)
unfoldable pub settled : ℕ → Transfer → Bool → List ℕ → List ℕ
settled at next reset state = cond reset (fresh_state state) (splice state at (record_bytes next))
