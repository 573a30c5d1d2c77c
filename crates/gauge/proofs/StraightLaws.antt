-- WHAT KEEPS THE TRIP POINTS STRAIGHT: what leaves their entries, a load, power-up, and every write that passes the last checks.
-- Assumes nothing.
use mathlib.Core.Path.{◌≡◌, refl, sym, ap, ap₂, ◌∙◌}
use mathlib.Core.Bool.{Bool, true, false, not, ◌&&◌, ◌||◌, and-false, or-true}
use mathlib.Core.List.{List}
use Prim.Native.Nat.{ℕ, ◌+◌, ◌<◌}
use lib.Dec.{T, eqb, lit<}
use lib.Ieee.{Float, lt, of_bits, of_fields}
use lib.ListN.{length, replicate}
use borrow.Author.Tests.{eqb-false}
use Rattle.wire.specs.Splice.{splice}
use Rattle.wire.specs.Little.{little, from_little, number}
use Rattle.wire.specs.Real.{real}
use Rattle.wire.specs.Flags.{is_set}
use Rattle.table.specs.Row.{Row, CARD, COMMAND}
use Rattle.table.specs.Rows.{rows, row_count, at_row}
use Rattle.table.specs.Rule.{pick, held}
use Rattle.table.specs.Walk.{every}
use Rattle.table.specs.Find.{find_from, find_row, row_number}
use Rattle.table.specs.Places.{latched, is_mask, of_point_1, of_point_2, settings_1, settings_2, high_enable, low_enable, high_level, low_level}
use Rattle.entry.specs.Entry.{entry_of, with_entry, default_of, defaulted, defaults}
use Rattle.entry.proofs.Entries.{defaults-length}
use Rattle.crossed.specs.Crossed.{crossed, crossed_at, straight}
use Rattle.crossed.proofs.CrossedLaws.{same_numbers}
use Rattle.block.specs.Saved.{loadable, loaded, leaves_straight}
use Rattle.block.proofs.Theorems.{length-loaded, faulty_leaves, refused_leaves, crossed-refused, crossed_unstored, loaded-straight}
use Rattle.trip.specs.declared.Trips.{Trips}
use Rattle.sample.specs.Faults.{with_summary}
use Rattle.sample.specs.Sample.{settings, values_after}
use Rattle.sample.proofs.SampleLaws.{settings_1_stay, settings_2_stay}
use Rattle.command.specs.Words.{with_status}
use Rattle.command.specs.Exceptions.{exceptions_cleared}
use Rattle.command.specs.declared.word.Command.{Command}
use Rattle.command.specs.declared.word.Command.TheVariants.{DeviceReset, ExceptionReset, StoreParameters, LoadParameters}
use Rattle.order.specs.Talk.{stored}
use Rattle.gauge.specs.Memory.{Memory, with_values}
use Rattle.gauge.specs.Commands.{status_by, done}
use Rattle.gauge.specs.Masks.{heeding}
use Rattle.gauge.specs.Written.{with_value, crosses, crosses_1, crosses_2}
use Rattle.gauge.specs.PowerUp.{block_taken, fresh_values}
use Rattle.gauge.proofs.CommitLaws.{other_held}
use Rattle.gauge.proofs.Flags.{no_flag, either_false, both-off}
use Rattle.gauge.proofs.RowTests.{aside, not_these}
use Rattle.gauge.proofs.WrittenLaws.{written_entry}
use Rattle.gauge.proofs.SummaryLaws.{is_summary, summary_leaves, written_leaves}
use Rattle.gauge.proofs.GaugeLaws.{own, named, status_leaves, cleared_leaves}

-- ---- the entries of a trip point tell

abbrev of_points : Row → Bool
of_points r = of_point_1 r || of_point_2 r

-- the row of an entry
abbrev found : ℕ → ℕ → ℕ
found index sub = row_number (find_row index sub)

-- the row of a number of the values, which is one of some
abbrev Field : (Row → Bool) → ℕ → ℕ → ℕ → Type 0
Field some j p n = (j < row_count) × (some (at_row j) ≡ true) × ((at_row j).place ≡ p) × (held (at_row j) ≡ n)

module _ (x y : List ℕ) where
  -- some rows read alike
  abbrev pub Alike : (Row → Bool) → Type 0
  Alike some = (j : ℕ) → j < row_count → some (at_row j) ≡ true → entry_of (at_row j) x ≡ entry_of (at_row j) y

  same_number : (some : Row → Bool) → Alike some → (j p n : ℕ) → Field some j p n → number x p n ≡ number y p n
  unfolding number entry_of
  same_number some alike j p n f = rw (← f.2, ← f.3) (ap from_little (alike j f.0 f.1))

  point_alike : (some : Row → Bool) (at a b c d : ℕ) → Field some a (at + high_enable) 1 → Field some b (at + low_enable) 1 → Field some c (at + high_level) 4 → Field some d (at + low_level) 4
      → Alike some → crossed_at x at ≡ crossed_at y at
  point_alike some at a b c d fa fb fc fd alike =
      same_numbers x y at (same_number some alike a _ _ fa) (same_number some alike b _ _ fb) (same_number some alike c _ _ fc) (same_number some alike d _ _ fd)

  pub point_1-alike : Alike of_point_1 → crossed_at x settings_1 ≡ crossed_at y settings_1
  unfolding row_number find_row find_from rows of_point_1 held pick
  point_1-alike =
      point_alike of_point_1 settings_1 (found 0x800E 0x01) (found 0x800E 0x02) (found 0x800E 0x11) (found 0x800E 0x14)
      (lit< tt, refl, refl, refl) (lit< tt, refl, refl, refl) (lit< tt, refl, refl, refl) (lit< tt, refl, refl, refl)

  pub point_2-alike : Alike of_point_2 → crossed_at x settings_2 ≡ crossed_at y settings_2
  unfolding row_number find_row find_from rows of_point_2 held pick
  point_2-alike =
      point_alike of_point_2 settings_2 (found 0x800F 0x01) (found 0x800F 0x02) (found 0x800F 0x11) (found 0x800F 0x14)
      (lit< tt, refl, refl, refl) (lit< tt, refl, refl, refl) (lit< tt, refl, refl, refl) (lit< tt, refl, refl, refl)

  -- so what leaves both is as straight as it was
  straight_alike : Alike of_points → straight x ≡ straight y
  unfolding straight
  straight_alike alike =
      ap₂ (λ (a b : Bool). not a && not b) (point_1-alike (λ j h e. alike j h (rw e))) (point_2-alike (λ j h e. alike j h (rw e (or-true (of_point_1 (at_row j))))))

-- ---- what is written beside them

-- computed, once over the table for each
summary_aside : T (every (aside of_points is_summary) rows)
unfolding every aside pick of_point_1 of_point_2 rows
summary_aside = tt

own_aside : (c : Command) → T (every (aside of_points (own c)) rows)
unfolding every aside pick of_point_1 of_point_2 own rows
own_aside DeviceReset = tt
own_aside ExceptionReset = tt
own_aside StoreParameters = tt
own_aside LoadParameters = tt

cleared_aside : T (every (aside of_points (named ExceptionReset)) rows)
unfolding every aside pick of_point_1 of_point_2 named own latched rows
cleared_aside = tt

module _ (values : List ℕ) (long : length values ≡ 1024) where
  summary_straight : straight (with_summary values) ≡ straight values
  summary_straight = straight_alike _ values (λ j h e. summary_leaves values long j h (not_these of_points is_summary summary_aside j h e))

  pub status_straight : (c : Command) (code : ℕ) → straight (with_status c code values) ≡ straight values
  status_straight c code = straight_alike _ values (λ j h e. status_leaves c code values long j h (not_these of_points (own c) (own_aside c) j h e))

  pub cleared_straight : straight (exceptions_cleared values) ≡ straight values
  cleared_straight = straight_alike _ values (λ j h e. cleared_leaves values long j h (not_these of_points (named ExceptionReset) cleared_aside j h e))

-- ---- a sample follows the settings that tell it, and leaves them

pub settings-tell : (values : List ℕ) (at : ℕ) → let p = settings values at in crossed_at values at ≡ p.high.enabled && (p.low.enabled && not (lt p.low.level p.high.level))
unfolding crossed_at crossed settings real is_set
settings-tell values at = refl

pub sample-straight : (l : List ℕ) (was : Trips) (p : Float) (valid faults seconds : ℕ) → length l ≡ 1024 → straight (values_after l was p valid faults seconds) ≡ straight l
unfolding straight
sample-straight l was p valid faults seconds long =
    rw (settings-tell (values_after l was p valid faults seconds) settings_1, settings-tell (values_after l was p valid faults seconds) settings_2, settings_1_stay l was p valid faults seconds long, settings_2_stay l was p valid faults seconds long, settings-tell l settings_1, settings-tell l settings_2)

-- ---- a load and power-up

pub taken-straight : (block values : List ℕ) → length block ≡ 512 → length values ≡ 1024 → straight values ≡ true → straight (block_taken block values) ≡ true
unfolding block_taken heeding
taken-straight block values n long h = go (loadable block) refl
  where
    go : (b : Bool) → loadable block ≡ b → straight (heeding b (loaded block values)) ≡ true
    go true e = summary_straight (loaded block values) (length-loaded block values long) ∙ loaded-straight block values n long e
    go false e = rw (faulty_leaves block values e) h

abbrev default_values : List ℕ
default_values = defaults rows (replicate 1024 0)

default_length : length default_values ≡ 1024
default_length = defaults-length (replicate 1024 0) refl

-- computed (R3.9)
pub default_straight : straight default_values ≡ true
unfolding rows with_entry default_of defaulted defaults pick held little from_little number splice crossed crossed_at straight lt of_bits of_fields
default_straight = refl

pub fresh-straight : (block : List ℕ) → length block ≡ 512 → straight (fresh_values block) ≡ true
unfolding fresh_values
fresh-straight block n = taken-straight block default_values n default_length default_straight

-- ---- a block that would leave a trip point crossed, and values that do

-- a load has status 2 and changes nothing else
pub crossed_load : (m : Memory) → length m.block ≡ 512 → length m.values ≡ 1024 → leaves_straight m.block m.values ≡ false
    → done LoadParameters m ≡ stored (with_values m (with_status LoadParameters 2 m.values))
unfolding done status_by block_taken heeding
crossed_load m n long bad =
    let faulty = crossed-refused m.block m.values n long bad in
    rw (faulty, faulty_leaves m.block m.values faulty)

-- power-up gives the defaults
pub crossed_power_up : (block : List ℕ) → length block ≡ 512 → leaves_straight block default_values ≡ false → fresh_values block ≡ default_values
unfolding fresh_values block_taken heeding
crossed_power_up block n bad =
    let faulty = crossed-refused block default_values n default_length bad in
    rw faulty (faulty_leaves block default_values faulty)

-- a store has status 2 and leaves the block
pub crossed-store : (m : Memory) → straight m.values ≡ false → done StoreParameters m ≡ stored (with_values m (with_status StoreParameters 2 m.values))
unfolding done status_by
crossed-store m bad =
    let unstored = crossed_unstored m.values bad in
    rw (unstored, refused_leaves m.values m.block unstored)

-- ---- a write that passes the last checks

module _ (k : ℕ) (there : k < row_count) (no-command : (at_row k).kind ≡ COMMAND → ⊥) (values bytes : List ℕ) (long : length values ≡ 1024) (size : length bytes ≡ (at_row k).len) where
  abbrev after : List ℕ
  after = with_value (at_row k) values bytes

  -- it leaves a trip point that it does not touch
  untouched : (some : Row → Bool) → ((j : ℕ) → some (at_row j) ≡ true → of_points (at_row j) ≡ true) → (eqb (at_row k).kind CARD || some (at_row k)) ≡ false → Alike after values some
  untouched some is_of e j h own =
      let no-card : (at_row k).kind ≡ CARD → ⊥ = eqb-false (at_row k).kind CARD (either_false (eqb (at_row k).kind CARD) _ e).0 in
      let other : k ≡ j → ⊥ = λ q. no_flag (sym own ∙ rw (← q) (either_false (eqb (at_row k).kind CARD) _ e).1) in
      rw (written_entry (at_row k) values bytes no-card)
      (written_leaves k there values bytes long (size ∙ sym (other_held k there no-card no-command)) j h other (rw (not_these of_points is_summary summary_aside j h (is_of j own)) (and-false (is_mask (at_row k)))))

  -- and one that it touches was judged
  judged : (some : Row → Bool) (at : ℕ) → ((eqb (at_row k).kind CARD || some (at_row k)) ≡ false → crossed_at after at ≡ crossed_at values at) → crosses some at (at_row k) values bytes ≡ false → crossed_at values at ≡ false → crossed_at after at ≡ false
  unfolding crosses
  judged some at left pass was = go (eqb (at_row k).kind CARD || some (at_row k)) refl pass
    where
      go : (b : Bool) → (eqb (at_row k).kind CARD || some (at_row k)) ≡ b → b && crossed_at after at ≡ false → crossed_at after at ≡ false
      go true e h = h
      go false e h = left e ∙ was

  pub written-straight : crosses_1 (at_row k) values bytes ≡ false → crosses_2 (at_row k) values bytes ≡ false → straight values ≡ true → straight after ≡ true
  unfolding straight
  written-straight one two was =
      let w = both-off (crossed_at values settings_1) (crossed_at values settings_2) was in
      rw (judged of_point_1 settings_1 (λ e. point_1-alike after values (untouched of_point_1 (λ j own. rw own) e)) one w.0, judged of_point_2 settings_2 (λ e. point_2-alike after values (untouched of_point_2 (λ j own. rw own (or-true (of_point_1 (at_row j)))) e)) two w.1)
