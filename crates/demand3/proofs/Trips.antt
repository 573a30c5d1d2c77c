-- The trip states after a message: off after a device reset, else as they were (R8.8). Assumes nothing.
use Prim.Native.Nat.{ℕ}
use mathlib.Core.Path.{◌≡◌, refl}
use mathlib.Core.Bool.{Bool, true, false, cond, not, beq}
use mathlib.Core.List.{List, ◌++◌}
use lib.Dec.{ltb}
use lib.ListN.{length}
use Rattle.order.specs.Talk.{Said, Request, open_read, next_part, expedited, open_write, send_part, give_up, unknown, Answer, write_opened, part_taken, dropped, Sizes, sizes, closed, Outcome, stored, restarted, declined, Pending, idle, reading, writing}
use Rattle.order.specs.Gauge.{too_long, too_short, by_length, counted, judged, judged_by, allowed, write_whole}
use Rattle.order.specs.Serve.{Form, Speech, toggle_code, over, Served, keeping, conclude, take_part, serve}
use Rattle.order.specs.Keep.{is_wiped, speak}
use Rattle.trip.specs.Trip.{all_off}
use Rattle.gauge.specs.Memory.{Memory, Store}
use Rattle.gauge.specs.Whole.{with_trips, commit_whole}
use Rattle.sdo.specs.declared.Key.{Key}
use Rattle.transfer.specs.declared.Transfer.{Transfer}
use Rattle.transfer.specs.Records.{view, transfers}
use Rattle.line.specs.Gauge.{plain}

module _ (g : Store) where
  Tripped : Outcome Store → Type 0
  Tripped (stored h) = h.trips ≡ g.trips
  Tripped (restarted h) = h.trips ≡ all_off
  Tripped (declined c) = Unit {0}

  tripped_by : (o : Outcome Memory) → Tripped (with_trips g o)
  unfolding Tripped with_trips
  tripped_by (stored m) = refl
  tripped_by (restarted m) = refl
  tripped_by (declined c) = tt

  tripped_commit : (k : Key) (bytes : List ℕ) → Tripped (plain.commit g k bytes)
  unfolding commit_whole
  tripped_commit k bytes = tripped_by _

  tripped_judged : (k : Key) (low high : ℕ) (bytes : List ℕ) → Tripped (judged plain g k low high bytes)
  unfolding Tripped judged by_length
  tripped_judged k low high bytes = go (ltb high (length bytes)) (ltb (length bytes) low)
    where
      go : (d e : Bool) → Tripped (cond d (declined too_long) (cond e (declined too_short) (plain.commit g k bytes)))
      go true e = tt
      go false true = tt
      go false false = tripped_commit k bytes

  tripped_whole : (k : Key) (s : Said) (bytes : List ℕ) (z : Sizes) → Tripped (judged_by plain g k s bytes z)
  unfolding Tripped judged_by
  tripped_whole k s bytes (sizes low high) = tripped_judged k low high (counted s high bytes)
  tripped_whole k s bytes (closed c) = tt

  TripsKept : Served plain → Type 0
  TripsKept s = s.store.trips ≡ cond (is_wiped s.after) all_off g.trips

  kept-conclude : (k : Key) (y : Answer Key) (o : Outcome Store) → Tripped o → TripsKept (conclude plain g k y o)
  unfolding Tripped TripsKept conclude
  kept-conclude k y (stored h) e = e
  kept-conclude k y (restarted h) e = e
  kept-conclude k y (declined c) e = refl

  kept-serve : (F : Form) (x : Pending Key) (a : Request Key) → TripsKept (serve plain F g x a)
  unfolding TripsKept serve write_whole
  kept-serve F x (open_read k) = refl
  kept-serve F x (next_part u) = refl
  kept-serve F x (expedited k s bytes) = kept-conclude k (write_opened k) (write_whole plain g k s bytes) (tripped_whole k s bytes (allowed plain k s))
  kept-serve F x (open_write k n bytes) = refl
  kept-serve F idle (send_part u bytes last) = refl
  kept-serve F (reading k held place t) (send_part u bytes last) = refl
  kept-serve F (writing k low high sent t) (send_part u bytes last) = go (beq t u) last
    where
      go : (d e : Bool) → TripsKept (cond d (take_part plain g k low high (sent ++ bytes) (not t) e (part_taken t)) (keeping plain g (over plain (dropped k toggle_code))))
      go true true = kept-conclude k (part_taken t) (judged plain g k low high (sent ++ bytes)) (tripped_judged k low high (sent ++ bytes))
      go true false = refl
      go false e = refl
  kept-serve F x give_up = refl
  kept-serve F x unknown = refl

pub trips-kept : (H : Speech Key Key) (g : Store) (t : Transfer) (m : List ℕ) → (speak plain transfers H g t m).store.trips ≡ cond (speak plain transfers H g t m).reset all_off g.trips
unfolding speak TripsKept
trips-kept H g t m = kept-serve g H.form (view t) (H.ask m)
