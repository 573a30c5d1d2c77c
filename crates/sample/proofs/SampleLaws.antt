-- What stands where after a sample, one law for each fact. Assumes nothing.
use mathlib.Core.Bool.{Bool, true, false, cond, ◌&&◌, ◌||◌, and-eq-true_iff}
use mathlib.Core.Path.{◌≡◌, refl, sym, ap, ap₂, ◌∙◌, subst}
use mathlib.Core.List.{List, [], ◌∷◌}
use Prim.Native.Nat.{ℕ, ◌+◌, ◌*◌, ◌/◌, ◌%◌, ◌^◌, ◌<◌}
use native.Mathlib.Omega.{arith}
use Rattle.std.specs.Prelude.{Some, None}
use lib.Bits.{bit_and, bit_or, and_block, and_mask, or_lt}
use lib.Dec.{T, eqb}
use lib.ListN.{length}
use lib.Ieee.{Float, binary32, of_bits, to_bits, fits}
use lib.Ieee.Bits.{of_bits-to_bits, to_bits-lt}
use Rattle.wire.specs.Little.{little, from_little, number}
use Rattle.wire.specs.Real.{real}
use Rattle.wire.specs.Flags.{is_set, bit}
use Rattle.wire.proofs.LittleLaws.{Bytes, from_little-little, number_lt}
use Rattle.wire.proofs.FlagLaws.{by_test, bit_lt, set_back}
use Rattle.wire.proofs.Writes.{Write, write, written, within, tidy, shown, number-shown}
use Rattle.trip.specs.declared.Trips.{Trips}
use Rattle.trip.specs.Trip.{off, usable_pressure, point_after, output, all_off}
use Rattle.table.specs.Places.{input_value, trip_input_1, trip_input_2, reading_valid, status_1, status_2, trip_outputs, settings_1, settings_2, high_enable, low_enable, high_level, low_level, high_hysteresis, low_hysteresis, sensor_error, active_word, latched_word, error_mask, summary_byte, power_on_time}
use Rattle.sample.specs.Faults.{kept_faults, with_faults, all_hidden, summary_of, with_summary}
use Rattle.sample.specs.Sample.{settings, trips_next, trips_after, with_pressure, with_none, with_reading, trip_word, with_trip_entries, values_after}

-- ---- the kept faults

pub kept_is : (f : ℕ) → kept_faults f ≡ f % 4 + f / 512 % 4 * 512
unfolding kept_faults
kept_is f =
    let e : f ≡ f / 512 * 512 + f % 512 = omega arith in
    let m : f % 512 % 4 ≡ f % 4 = omega arith in
    ap (λ (x : ℕ). bit_and x 1539) e
    ∙ and_block 9 (f / 512) 3 (f % 512) 3 (omega arith) (omega arith)
    ∙ ap₂ (λ (x y : ℕ). x * 512 + y) (and_mask (f / 512) 2) (and_mask (f % 512) 2 ∙ m)
    ∙ omega arith

-- eleven bits, so a UINT holds them
pub kept_lt : (f : ℕ) → kept_faults f < 2 ^ 16
kept_lt f = rw kept_is (omega arith)

kept_word : (f : ℕ) → kept_faults f < 2 ^ 32
kept_word f = omega (arith, kept_lt f)

-- ---- what fits

pub summary_fits : (active mask : ℕ) → summary_of active mask < 2 ^ (8 * 1)
unfolding summary_of
summary_fits active mask = go (all_hidden active mask)
  where
    go : (b : Bool) → cond b 0 4 < 2 ^ (8 * 1)
    go true = omega arith
    go false = omega arith

word_lt : (t : Trips) → trip_word t < 2 ^ (8 * 4)
unfolding trip_word
word_lt t = omega (arith, bit_lt t.one.high, bit_lt t.one.low, bit_lt t.two.high, bit_lt t.two.low)

-- ---- the outputs in the word of F641

-- is bit n of a number set?
abbrev pub set_in : ℕ → ℕ → Bool
set_in w n = eqb (w / 2 ^ n % 2) 1

told : (w n : ℕ) (b : Bool) → w / 2 ^ n % 2 ≡ bit b → set_in w n ≡ b
told w n true e = rw e
told w n false e = rw e

-- each point's output is the or of its two bits
word_outputs : (t : Trips) → (output t.one ≡ set_in (trip_word t) 0 || set_in (trip_word t) 1) × (output t.two ≡ set_in (trip_word t) 2 || set_in (trip_word t) 3)
unfolding output trip_word
word_outputs t =
    let w = trip_word t in
    let a = bit_lt t.one.high in
    let b = bit_lt t.one.low in
    let c = bit_lt t.two.high in
    let d = bit_lt t.two.low in (
      sym (ap₂ ◌||◌ (told w 0 t.one.high (omega arith)) (told w 1 t.one.low (omega arith))),
      sym (ap₂ ◌||◌ (told w 2 t.two.high (omega arith)) (told w 3 t.two.low (omega arith))),
    )

-- ---- a sample by whether its pressure is usable

-- a pressure that is given back is the sample's, and usable; none is given where it is not
pub some_told : (b : Bool) (p q : Float) → Some q ≡ cond b (Some p) None → (b ≡ true) × (q ≡ p)
some_told true p q e = (refl, cc)
some_told false p q e = absurd cc

none_told : (b : Bool) (p : Float) → None ≡ cond b (Some p) None → b ≡ false
none_told true p e = absurd cc
none_told false p e = refl

module _ (l : List ℕ) (was : Trips) (p : Float) (valid : ℕ) where
  -- what is promised of trips and values
  abbrev Taken : Trips → List ℕ → Type 0
  Taken t x = (t ≡ trips_after l was p valid) × (x ≡ with_trip_entries (trips_after l was p valid) (with_reading p valid l))

  pub taken_usable : {q : Float} {t : Trips} {x : List ℕ} → Some q ≡ cond (usable_pressure p valid) (Some p) None
      → (t ≡ trips_next l was q) × (x ≡ with_trip_entries (trips_next l was q) (with_pressure q l)) → Taken t x
  unfolding trips_next trips_after point_after with_reading
  taken_usable {q} e w =
      let u = some_told (usable_pressure p valid) p q e in
      (simp u.0 (rw u.1 at w.0), simp u.0 (rw u.1 at w.1))

  pub taken_unusable : {t : Trips} {x : List ℕ} → None ≡ cond (usable_pressure p valid) (Some p) None → (t ≡ all_off) × (x ≡ with_trip_entries all_off (with_none l)) → Taken t x
  unfolding trips_after point_after off with_reading
  taken_unusable e w =
      let u = none_told (usable_pressure p valid) p e in
      (simp u w.0, simp u w.1)

-- ---- a sample as a list of writes

-- the reading of a pattern, if it is usable, and what follows
abbrev reading : Bool → ℕ → List Write → List Write
reading true pattern ws =
    write input_value 4 pattern ∷ write trip_input_1 4 pattern ∷ write trip_input_2 4 pattern ∷ write reading_valid 1 1 ∷ ws
reading false pattern ws = write reading_valid 1 0 ∷ ws

abbrev tripped : Trips → List Write → List Write
tripped t ws =
    write status_1 1 (bit t.one.high) ∷
    write (status_1 + 1) 1 (bit t.one.low) ∷
    write status_2 1 (bit t.two.high) ∷
    write (status_2 + 1) 1 (bit t.two.low) ∷
    write trip_outputs 4 (trip_word t) ∷
    ws

abbrev faulted : ℕ → ℕ → List Write → List Write
faulted active latched ws = write sensor_error 2 active ∷ write active_word 4 active ∷ write latched_word 4 latched ∷ ws

module _ (l : List ℕ) (was : Trips) (p : Float) (valid : ℕ) where
  -- the writes of a sample whose pressure is usable or not, and some more
  abbrev steps : Bool → List Write → List Write
  steps u ws = reading u (to_bits binary32 p) (tripped (trips_after l was p valid) ws)

  -- the values are these writes, in each case
  abbrev By : List ℕ → List Write → Type 0
  By x ws = (u : Bool) → usable_pressure p valid ≡ u → x ≡ written l (steps u ws)

  -- the tests that a number read afterwards asks for
  abbrev fine : List Write → ℕ → ℕ → Bool
  fine ws q m = (within 1024 (steps true ws) && tidy (steps true ws) q m) && (within 1024 (steps false ws) && tidy (steps false ws) q m)

  module _ (h : length l ≡ 1024) (x : List ℕ) (ws : List Write) (by : By x ws) where
    case : (u : Bool) → usable_pressure p valid ≡ u → (q m : ℕ) → within 1024 (steps u ws) && tidy (steps u ws) q m ≡ true → number x q m ≡ shown (steps u ws) q m (number l q m)
    case u e q m k =
        let both = (and-eq-true_iff (within 1024 (steps u ws)) (tidy (steps u ws) q m)).0 k in
        rw (by u e) (number-shown (steps u ws) l 1024 q m h both.0 both.1)

    -- a number that a reading does not write is the same in both cases
    each : (q m v : ℕ) → fine ws q m ≡ true → shown (steps true ws) q m (number l q m) ≡ v → shown (steps false ws) q m (number l q m) ≡ v → number x q m ≡ v
    each q m v k e f =
        let both = (and-eq-true_iff (within 1024 (steps true ws) && tidy (steps true ws) q m) _).0 k in
        by_test (usable_pressure p valid) (λ y. case true y q m both.0 ∙ e) (λ n. case false n q m both.1 ∙ f)

module _ (l : List ℕ) (was : Trips) (p : Float) (valid faults seconds : ℕ) (h : length l ≡ 1024) where
  -- the values after reading and trips, and those after the faults too
  abbrev m : List ℕ
  m = with_trip_entries (trips_after l was p valid) (with_reading p valid l)

  m_by : By l was p valid m []
  unfolding with_trip_entries with_reading
  m_by true e = rw e
  m_by false e = rw e

  abbrev f_writes : List Write → List Write
  f_writes = faulted (kept_faults faults) (bit_or (kept_faults faults) (number l latched_word 4))

  latched_before : number m latched_word 4 ≡ number l latched_word 4
  latched_before = each l was p valid h m [] m_by latched_word 4 _ refl refl refl

  f_by : By l was p valid (with_faults faults m) (f_writes [])
  unfolding with_faults
  f_by true e = rw (latched_before, m_by true e)
  f_by false e = rw (latched_before, m_by false e)

  active_before : number (with_faults faults m) active_word 4 ≡ kept_faults faults
  active_before =
      let e = from_little-little 4 (kept_faults faults) (kept_word faults) in
      each l was p valid h (with_faults faults m) (f_writes []) f_by active_word 4 (kept_faults faults) refl e e

  mask_before : number (with_faults faults m) error_mask 4 ≡ number l error_mask 4
  mask_before = each l was p valid h (with_faults faults m) (f_writes []) f_by error_mask 4 _ refl refl refl

  -- this sample's faults, under the mask as it stands
  abbrev summary : ℕ
  summary = summary_of (kept_faults faults) (number l error_mask 4)

  abbrev all_writes : List Write
  all_writes = f_writes (write summary_byte 1 summary ∷ write power_on_time 4 seconds ∷ [])

  all_by : By l was p valid (values_after l was p valid faults seconds) all_writes
  unfolding values_after with_summary
  all_by true e = rw (active_before, mask_before, f_by true e)
  all_by false e = rw (active_before, mask_before, f_by false e)

  number-after : (q n v : ℕ) → fine l was p valid all_writes q n ≡ true → shown (steps l was p valid true all_writes) q n (number l q n) ≡ v → shown (steps l was p valid false all_writes) q n (number l q n) ≡ v → number (values_after l was p valid faults seconds) q n ≡ v
  number-after = each l was p valid h (values_after l was p valid faults seconds) all_writes all_by

  -- ---- faults, summary and time

  pub error_shown : number (values_after l was p valid faults seconds) sensor_error 2 ≡ kept_faults faults
  error_shown = let e = from_little-little 2 (kept_faults faults) (kept_lt faults) in number-after sensor_error 2 _ refl e e

  pub active_shown : number (values_after l was p valid faults seconds) active_word 4 ≡ kept_faults faults
  active_shown = let e = from_little-little 4 (kept_faults faults) (kept_word faults) in number-after active_word 4 _ refl e e

  pub latched-shown : Bytes l → number (values_after l was p valid faults seconds) latched_word 4 ≡ bit_or (kept_faults faults) (number l latched_word 4)
  latched-shown bytes =
      let e = from_little-little 4 (bit_or (kept_faults faults) (number l latched_word 4)) (or_lt 32 (kept_faults faults) (number l latched_word 4) (kept_word faults) (number_lt l latched_word 4 bytes)) in
      number-after latched_word 4 _ refl e e

  pub summary_shown : number (values_after l was p valid faults seconds) summary_byte 1 ≡ summary_of (kept_faults faults) (number l error_mask 4)
  summary_shown = let e = from_little-little 1 summary (summary_fits (kept_faults faults) (number l error_mask 4)) in number-after summary_byte 1 _ refl e e

  pub mask_stays : number (values_after l was p valid faults seconds) error_mask 4 ≡ number l error_mask 4
  mask_stays = number-after error_mask 4 _ refl refl refl

  pub time_shown : seconds < 2 ^ 32 → number (values_after l was p valid faults seconds) power_on_time 4 ≡ seconds
  time_shown k = let e = from_little-little 4 seconds k in number-after power_on_time 4 _ refl e e

  -- ---- the reading

  pub valid-shown : number (values_after l was p valid faults seconds) reading_valid 1 ≡ bit (usable_pressure p valid)
  valid-shown =
      by_test (usable_pressure p valid)
      (λ e. rw e (case l was p valid h _ all_writes all_by true e reading_valid 1 refl ∙ from_little-little 1 1 (omega arith)))
      (λ e. rw e (case l was p valid h _ all_writes all_by false e reading_valid 1 refl ∙ from_little-little 1 0 (omega arith)))

  -- a usable pressure stands at the three places of the input value
  module _ (y : usable_pressure p valid ≡ true) (k : fits binary32 p ≡ true) where
    real-after : (q : ℕ) → number (values_after l was p valid faults seconds) q 4 ≡ from_little (little 4 (to_bits binary32 p)) → real (values_after l was p valid faults seconds) q ≡ p
    unfolding real
    real-after q e =
        let t : T (fits binary32 p) = subst T (sym k) tt in
        ap (of_bits binary32) (e ∙ from_little-little 4 (to_bits binary32 p) (to_bits-lt binary32 p t)) ∙ of_bits-to_bits binary32 p t

    pub input_shown : real (values_after l was p valid faults seconds) input_value ≡ p
    input_shown = real-after input_value (case l was p valid h _ all_writes all_by true y input_value 4 refl)

    pub input_1_shown : real (values_after l was p valid faults seconds) trip_input_1 ≡ p
    input_1_shown = real-after trip_input_1 (case l was p valid h _ all_writes all_by true y trip_input_1 4 refl)

    pub input_2_shown : real (values_after l was p valid faults seconds) trip_input_2 ≡ p
    input_2_shown = real-after trip_input_2 (case l was p valid h _ all_writes all_by true y trip_input_2 4 refl)

  -- a pressure that is not usable leaves them bit for bit
  pub input_stays : usable_pressure p valid ≡ false → number (values_after l was p valid faults seconds) input_value 4 ≡ number l input_value 4
  input_stays n = case l was p valid h _ all_writes all_by false n input_value 4 refl

  pub input_1_stays : usable_pressure p valid ≡ false → number (values_after l was p valid faults seconds) trip_input_1 4 ≡ number l trip_input_1 4
  input_1_stays n = case l was p valid h _ all_writes all_by false n trip_input_1 4 refl

  pub input_2_stays : usable_pressure p valid ≡ false → number (values_after l was p valid faults seconds) trip_input_2 4 ≡ number l trip_input_2 4
  input_2_stays n = case l was p valid h _ all_writes all_by false n trip_input_2 4 refl

  -- ---- the trips

  pub outputs_shown : number (values_after l was p valid faults seconds) trip_outputs 4 ≡ trip_word (trips_after l was p valid)
  outputs_shown = let e = from_little-little 4 (trip_word (trips_after l was p valid)) (word_lt (trips_after l was p valid)) in number-after trip_outputs 4 _ refl e e

  pub high_1_shown : is_set (values_after l was p valid faults seconds) status_1 ≡ (trips_after l was p valid).one.high
  high_1_shown = set_back _ status_1 _ (number-after status_1 1 _ refl refl refl)

  pub low_1_shown : is_set (values_after l was p valid faults seconds) (status_1 + 1) ≡ (trips_after l was p valid).one.low
  low_1_shown = set_back _ (status_1 + 1) _ (number-after (status_1 + 1) 1 _ refl refl refl)

  pub high_2_shown : is_set (values_after l was p valid faults seconds) status_2 ≡ (trips_after l was p valid).two.high
  high_2_shown = set_back _ status_2 _ (number-after status_2 1 _ refl refl refl)

  pub low_2_shown : is_set (values_after l was p valid faults seconds) (status_2 + 1) ≡ (trips_after l was p valid).two.low
  low_2_shown = set_back _ (status_2 + 1) _ (number-after (status_2 + 1) 1 _ refl refl refl)

  -- each point's output is the or of its two status entries, and of its two bits of F641
  pub outputs_by_status : let v = values_after l was p valid faults seconds in
      (output (trips_after l was p valid).one ≡ is_set v status_1 || is_set v (status_1 + 1)) × (output (trips_after l was p valid).two ≡ is_set v status_2 || is_set v (status_2 + 1))
  unfolding output
  outputs_by_status = (rw (high_1_shown, low_1_shown), rw (high_2_shown, low_2_shown))

  pub outputs_by_word : let w = number (values_after l was p valid faults seconds) trip_outputs 4 in
      (output (trips_after l was p valid).one ≡ set_in w 0 || set_in w 1) × (output (trips_after l was p valid).two ≡ set_in w 2 || set_in w 3)
  outputs_by_word = rw outputs_shown (word_outputs (trips_after l was p valid))

  -- ---- the settings stay

  stays : (q n : ℕ) → fine l was p valid all_writes q n ≡ true → shown (steps l was p valid true all_writes) q n (number l q n) ≡ number l q n → shown (steps l was p valid false all_writes) q n (number l q n) ≡ number l q n → number (values_after l was p valid faults seconds) q n ≡ number l q n
  stays q n = number-after q n (number l q n)

  pub settings_1_stay : settings (values_after l was p valid faults seconds) settings_1 ≡ settings l settings_1
  unfolding settings real is_set
  settings_1_stay =
      rw (
        stays (settings_1 + high_enable) 1 refl refl refl,
        stays (settings_1 + low_enable) 1 refl refl refl,
        stays (settings_1 + high_level) 4 refl refl refl,
        stays (settings_1 + low_level) 4 refl refl refl,
        stays (settings_1 + high_hysteresis) 4 refl refl refl,
        stays (settings_1 + low_hysteresis) 4 refl refl refl,
      )

  pub settings_2_stay : settings (values_after l was p valid faults seconds) settings_2 ≡ settings l settings_2
  unfolding settings real is_set
  settings_2_stay =
      rw (
        stays (settings_2 + high_enable) 1 refl refl refl,
        stays (settings_2 + low_enable) 1 refl refl refl,
        stays (settings_2 + high_level) 4 refl refl refl,
        stays (settings_2 + low_level) 4 refl refl refl,
        stays (settings_2 + high_hysteresis) 4 refl refl refl,
        stays (settings_2 + low_hysteresis) 4 refl refl refl,
      )
