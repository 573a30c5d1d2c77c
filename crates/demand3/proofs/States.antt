-- WHAT THE STATE STANDS FOR: both lines' records, the trip states, the form of line 0; and what it stands for after each write of a call.
use Prim.Native.Nat.{ℕ, ◌+◌, ◌≤◌}
use native.Mathlib.Omega.{arith}
use mathlib.Core.Path.{◌≡◌, refl, ◌∙◌}
use mathlib.Core.Logic.{◌⊎◌, inl, inr}
use mathlib.Core.Bool.{Bool, true, false, cond}
use mathlib.Core.List.{List}
use lib.ListN.{length}
use Rattle.wire.specs.Splice.{splice}
use Rattle.wire.proofs.SpliceLaws.{length-splice, part_length}
use Rattle.order.specs.Serve.{put_at}
use Rattle.trip.specs.declared.Trips.{Trips}
use Rattle.trip.specs.Trip.{all_off}
use Rattle.mailbox.specs.Lines.{Line, tool, service, Line-same}
use Rattle.transfer.specs.declared.Transfer.{Transfer}
use Rattle.transfer.specs.Records.{zero_record}
use Rattle.transfer.proofs.RecordLaws.{Whole, Small}
use Rattle.state.specs.State.{state_size, record_size, record_place, record_at, record_bytes, trips_place, trips_at, trips_bytes, form_place, form_at, form_bytes, fresh_state, settled}
use Rattle.board.specs.Calls.{with_form}
use Rattle.demand3.specs.Firmware.{line_number}
use Rattle.demand3.proofs.StateBytes.{record_long, record_back, record_beside, trips_long, trips-back, trips_beside, form_beside, form_long, form-back}

abbrev pub Records : Type 0
Records = Line → Transfer

abbrev pub place_of : Line → ℕ
place_of l = record_place (line_number l)

place_before : (l : Line) → place_of l + record_size ≤ trips_place
place_before tool = omega arith
place_before service = omega arith

pub record Stands (s : List ℕ) (rs : Records) (t : Trips) (boxed : Bool) : Type 0 where
  pub long : length s ≡ state_size
  pub records : (l : Line) → record_at s (place_of l) ≡ rs l
  pub trips : trips_at s ≡ t
  pub form : form_at s ≡ boxed

-- 256 bytes stand for what is read there
pub as_read : (s : List ℕ) → length s ≡ state_size → Stands s (λ l. record_at s (place_of l)) (trips_at s) (form_at s)
as_read s n = record { long = n; records = λ l. refl; trips = refl; form = refl }

pub whole-at : (s : List ℕ) → length s ≡ state_size → (l : Line) → Whole (record_at s (place_of l))
unfolding record_at
whole-at s n l = part_length s (place_of l) 64 (omega (arith, place_before l))

module _ {s : List ℕ} {rs : Records} {t : Trips} {boxed : Bool} (x : Stands s rs t boxed) where
  -- a line's record is written
  pub record_set : (l : Line) (next : Transfer) → Whole next → Small next → Stands (splice s (place_of l) (record_bytes next)) (put_at Line-same rs l next) t boxed
  unfolding put_at
  record_set l next w small =
      record {
        long = length-splice s (place_of l) (record_bytes next) (omega (arith, room l, size)) ∙ x.long;
        records = each l;
        trips = trips_beside s (place_of l) (record_bytes next) (omega (arith, room l)) (inl (omega (arith, place_before l, size))) ∙ x.trips;
        form = form_beside s (place_of l) (record_bytes next) (omega (arith, room l)) (omega (arith, place_before l, size)) ∙ x.form;
      }
    where
      size : length (record_bytes next) ≡ record_size
      size = record_long next w

      room : (k : Line) → place_of k + record_size ≤ length s
      room k = omega (arith, place_before k, x.long)

      own : (k : Line) → record_at (splice s (place_of k) (record_bytes next)) (place_of k) ≡ next
      own k = record_back s (place_of k) next w small (room k)

      other : (k j : Line) → (place_of k + record_size ≤ place_of j) ⊎ (place_of j + record_size ≤ place_of k) → record_at (splice s (place_of k) (record_bytes next)) (place_of j) ≡ rs j
      other k j b = record_beside s (place_of k) (record_bytes next) (place_of j) (omega (arith, room k)) (rw size b) ∙ x.records j

      each : (k j : Line) → record_at (splice s (place_of k) (record_bytes next)) (place_of j) ≡ put_at Line-same rs k next j
      each tool tool = own tool
      each tool service = other tool service (inl (omega arith))
      each service tool = other service tool (inr (omega arith))
      each service service = own service

  -- the trip states are written
  pub trips-set : (t' : Trips) → Stands (splice s trips_place (trips_bytes t')) rs t' boxed
  trips-set t' =
      record {
        long = length-splice s trips_place (trips_bytes t') (omega (arith, x.long, trips_long t')) ∙ x.long;
        records = λ l. record_beside s trips_place (trips_bytes t') (place_of l) (omega (arith, x.long)) (inr (place_before l)) ∙ x.records l;
        trips = trips-back s t' x.long;
        form = form_beside s trips_place (trips_bytes t') (omega (arith, x.long)) (omega (arith, trips_long t')) ∙ x.form;
      }

  -- the form is written
  pub form-set : (b : Bool) → Stands (with_form b s) rs t b
  unfolding with_form
  form-set b =
      record {
        long = length-splice s form_place (form_bytes b) (omega (arith, x.long, form_long b)) ∙ x.long;
        records = λ l. record_beside s form_place (form_bytes b) (place_of l) (omega (arith, x.long)) (inr (omega (arith, place_before l))) ∙ x.records l;
        trips = trips_beside s form_place (form_bytes b) (omega (arith, x.long)) (inr (omega arith)) ∙ x.trips;
        form = form-back s b x.long;
      }

zero_small : Small zero_record
zero_small = record { row_fits = omega arith; len-fits = omega arith; place-fits = omega arith }

module _ {s : List ℕ} {rs : Records} {t : Trips} {boxed : Bool} (x : Stands s rs t boxed) where
  -- a device reset, and power-up but for the form: no transfer, trips off, the form as it was
  pub fresh_set : Stands (fresh_state s) (λ l. zero_record) all_off boxed
  unfolding fresh_state put_at
  fresh_set = record { long = y.long; records = each; trips = y.trips; form = y.form }
    where
      y : Stands (fresh_state s) (put_at Line-same (put_at Line-same rs tool zero_record) service zero_record) all_off boxed
      y = trips-set (record_set (record_set x tool zero_record refl zero_small) service zero_record refl zero_small) all_off

      each : (l : Line) → record_at (fresh_state s) (place_of l) ≡ zero_record
      each tool = y.records tool
      each service = y.records service

  -- what a message of line l leaves
  pub settled-set : (l : Line) (next : Transfer) → Whole next → Small next → (reset : Bool)
      → Stands (settled (place_of l) next reset s) (cond reset (λ k. zero_record) (put_at Line-same rs l next)) (cond reset all_off t) boxed
  unfolding settled
  settled-set l next w small true = fresh_set
  settled-set l next w small false = record_set x l next w small
