-- What a reader of the rules asks of whole reads, writes and commands, one law for each. Assumes nothing.
use mathlib.Core.Path.{◌≡◌, refl, sym, ap, ◌∙◌}
use mathlib.Core.Bool.{Bool, true, false, cond, ◌&&◌, ◌||◌, and-false}
use mathlib.Core.List.{List}
use mathlib.Core.Option.{Option, none, some}
use Prim.Native.Nat.{ℕ, ◌+◌, ◌<◌, ◌≤◌}
use native.Mathlib.Omega.{arith}
use lib.Dec.{T, eqb}
use lib.ListN.{length, replicate}
use borrow.Author.Tests.{le-leb, eqb-false}
use Rattle.wire.specs.Splice.{splice}
use Rattle.wire.specs.Little.{little}
use Rattle.wire.proofs.SpliceLaws.{length-splice, splice-length}
use Rattle.wire.proofs.LittleLaws.{Bytes, length-little}
use Rattle.order.specs.Talk.{Said, Outcome, stored, restarted, declined}
use Rattle.order.specs.Gauge.{counted}
use Rattle.table.specs.Row.{Row, CARD, COMMAND}
use Rattle.table.specs.Rows.{rows, row_count, at_row}
use Rattle.table.specs.Rule.{pick, held}
use Rattle.table.specs.Walk.{every}
use Rattle.table.specs.Find.{find_row, row_number}
use Rattle.table.proofs.Table.{lock-found}
use Rattle.table.specs.Places.{latched_status, latched_size, latched, is_mask}
use Rattle.limits.specs.Limits.{Verdict, within}
use Rattle.entry.specs.Entry.{entry_of, with_entry}
use Rattle.std.specs.Prelude.{Ok, Err}
use Rattle.card.specs.Card.{card_of, with_card}
use Rattle.card.proofs.RoundTrip.{card_back}
use Rattle.block.specs.Saved.{loadable, loaded}
use Rattle.block.proofs.Theorems.{length-loaded, load_other}
use Rattle.gate.specs.Lock.{guarded, locked}
use Rattle.command.specs.Words.{word_of, status_of, with_status, same_bytes}
use Rattle.command.specs.Exceptions.{exceptions_cleared}
use Rattle.command.specs.declared.word.Command.{Command}
use Rattle.command.specs.declared.word.Command.TheVariants.{DeviceReset, ExceptionReset, StoreParameters, LoadParameters}
use Rattle.gauge.specs.Memory.{Memory, with_values}
use Rattle.gauge.specs.Masks.{heeding, Summed}
use Rattle.gauge.specs.Written.{with_value, crosses_1, crosses_2}
use Rattle.gauge.specs.PowerUp.{block_taken, powered_up}
use Rattle.gauge.specs.Commands.{done, obeyed}
use Rattle.gauge.specs.Endings.{left_by}
use Rattle.gauge.specs.Checks.{asked, asked_last, fails, under_lock, Test, verdict_of, last_order, refused_by, unless_refused, code_told}
use Rattle.gauge.specs.Whole.{value_of, effect, write_by, commit_row}
use Rattle.gauge.proofs.InOrder.{each_passes}
use Rattle.gauge.proofs.CommitLaws.{value_card, value_other, effect_other, other_held, card_length, outside_some, limits_refuse, card_judged}
use Rattle.gauge.proofs.Flags.{either_false}
use Rattle.gauge.proofs.WrittenLaws.{written_card, written_entry}
use Rattle.gauge.proofs.Spared.{spared, spare}
use Rattle.gauge.proofs.SummaryLaws.{is_summary, summary_length, summary_leaves, heeding_leaves, summed_anew, beside, summed_beside, written_read, written_leaves, taken-length}

-- R7.9
pub lock_open : (s : Said) (bytes values : List ℕ) → fails under_lock (asked (find_row 0x2003 0) s bytes values) ≡ false
unfolding fails row_number locked guarded rows
lock_open s bytes values = rw lock-found

-- what is refused changes nothing
pub refused_keeps : (row : ℕ) (bytes : List ℕ) (m : Memory) (c : ℕ) → commit_row row bytes m ≡ declined c → left_by m (commit_row row bytes m) ≡ record { ending = Err c; values = m.values; block = m.block }
unfolding left_by
refused_keeps row bytes m c e = rw e

-- R8.8
pub reset_is_power_up : (m : Memory) → obeyed DeviceReset (word_of DeviceReset) m ≡ restarted (powered_up m)
unfolding obeyed same_bytes word_of done
reset_is_power_up m = refl

-- ---- accepted writes

passed_all : (o : Option Test) (x : Outcome Memory) (n : Memory) → unless_refused o declined x ≡ stored n → (o ≡ none) × (x ≡ stored n)
unfolding unless_refused
passed_all none x n e = (refl, e)
passed_all (some t) x n e = absurd (let z : ◌≡◌ {A = ℕ} 0 1 = cc in omega arith)

only_one : (x n : Memory) → ◌≡◌ {A = Outcome Memory} (stored x) (stored n) → x ≡ n
only_one x n e = cc

pub passed_straight : (row : ℕ) (bytes values : List ℕ) → refused_by (asked_last row bytes values) last_order ≡ none
    → (crosses_1 (at_row row) values bytes ≡ false) × (crosses_2 (at_row row) values bytes ≡ false)
unfolding last_order fails row_number counted
passed_straight row bytes values e = let pass = each_passes (asked_last row bytes values) last_order e in (pass 4 (omega arith), pass 5 (omega arith))

-- they passed the lock, lie within the limits, and leave neither trip point that they touch crossed
module _ (row : ℕ) (bytes : List ℕ) (m n : Memory) (done : commit_row row bytes m ≡ stored n) where
  passed : (refused_by (asked_last row bytes m.values) last_order ≡ none) × (effect (at_row row) bytes m ≡ stored n)
  unfolding commit_row write_by counted row_number
  passed = passed_all _ _ n done

  pub accepted_unlocked : locked (at_row row) m.values ≡ false
  unfolding last_order fails row_number
  accepted_unlocked = each_passes (asked_last row bytes m.values) last_order passed.0 0 (omega arith)

  pub accepted_within : verdict_of (at_row row) bytes ≡ within
  unfolding unless_refused
  accepted_within = go (verdict_of (at_row row) bytes) refl
    where
      go : (v : Verdict) → verdict_of (at_row row) bytes ≡ v → v ≡ within
      go (Ok u) e = refl
      go (Err o) e = absurd (outside_some o (limits_refuse row m.values bytes accepted_unlocked o e ∙ ap code_told passed.0))

  pub accepted_straight : (crosses_1 (at_row row) m.values bytes ≡ false) × (crosses_2 (at_row row) m.values bytes ≡ false)
  accepted_straight = passed_straight row bytes m.values passed.0

  -- what is no command leaves what is written
  written-left : ((at_row row).kind ≡ COMMAND → ⊥) → with_value (at_row row) m.values bytes ≡ n.values
  written-left c = ap (λ (x : Memory). x.values) (only_one _ n (sym (effect_other (at_row row) bytes m c) ∙ passed.1))

-- a stored entry reads as the bytes that were written, and every other entry as before; a mask moves the summary F380 too
module _ (k : ℕ) (there : k < row_count) (no-card : (at_row k).kind ≡ CARD → ⊥) (no-command : (at_row k).kind ≡ COMMAND → ⊥) (bytes : List ℕ) (m n : Memory)
    (long : length m.values ≡ 1024) (size : length bytes ≡ (at_row k).len) (done : commit_row k bytes m ≡ stored n) where
  values-left : heeding (is_mask (at_row k)) (with_entry (at_row k) m.values bytes) ≡ n.values
  values-left = sym (written_entry (at_row k) m.values bytes no-card) ∙ written-left k bytes m n done no-command

  fit : length bytes ≡ held (at_row k)
  fit = size ∙ sym (other_held k there no-card no-command)

  pub write_read : value_of (at_row k) n.values ≡ bytes
  write_read =
      value_other (at_row k) n.values no-card no-command
      ∙ ap (entry_of (at_row k)) (sym values-left)
      ∙ written_read k there m.values bytes long fit

  pub write_leaves : (j : ℕ) → j < row_count → (k ≡ j → ⊥) → is_mask (at_row k) && is_summary (at_row j) ≡ false → entry_of (at_row j) n.values ≡ entry_of (at_row j) m.values
  write_leaves j h d e = ap (entry_of (at_row j)) (sym values-left) ∙ written_leaves k there m.values bytes long fit j h d e

-- and so does the card
pub card_write-read : (k : ℕ) → k < row_count → (at_row k).kind ≡ CARD → (bytes : List ℕ) → Bytes bytes → (m n : Memory) → length m.values ≡ 1024 → length bytes ≡ (at_row k).len
    → commit_row k bytes m ≡ stored n → value_of (at_row k) n.values ≡ bytes
card_write-read k there card bytes small m n long size e =
    let r : Row = at_row k in
    let v : with_card m.values bytes ≡ n.values = sym (written_card r m.values bytes card) ∙ written-left k bytes m n e (λ c. omega arith) in
    value_card r n.values card
    ∙ ap card_of (sym v)
    ∙ card_back m.values bytes long (size ∙ card_length k there card) small (sym (card_judged r bytes card) ∙ accepted_within k bytes m n e)

-- ---- what a command leaves

-- a command's own entries: word, status and response
unfoldable pub own : Command → Row → Bool
own DeviceReset r = eqb r.index 0xFBF0
own ExceptionReset r = eqb r.index 0xFBF1
own StoreParameters r = eqb r.index 0xFBF2
own LoadParameters r = eqb r.index 0xFBF4

-- the entries that the rules name for a command: its own (R8.3); the summary and the latched words (R8.7) or the NV
-- entries (R8.5, R11.4)
unfoldable pub named : Command → Row → Bool
named DeviceReset r = own DeviceReset r
named ExceptionReset r = own ExceptionReset r || (is_summary r || latched r)
named StoreParameters r = own StoreParameters r
named LoadParameters r = own LoadParameters r || (is_summary r || eqb r.nv 1)

none_of : (a b c : Bool) → a || (b || c) ≡ false → (a ≡ false) × (b ≡ false) × (c ≡ false)
none_of a b c e =
    let f = either_false a (b || c) e in
    let g = either_false b c f.1 in
    (f.0, g.0, g.1)

status_spared : (c : Command) → T (every (spared (own c) (status_of c) 1) rows)
unfolding rows every spared own pick held status_of
status_spared DeviceReset = tt
status_spared ExceptionReset = tt
status_spared StoreParameters = tt
status_spared LoadParameters = tt

response_spared : (c : Command) → T (every (spared (own c) (status_of c + 1) 1) rows)
unfolding rows every spared own pick held status_of
response_spared DeviceReset = tt
response_spared ExceptionReset = tt
response_spared StoreParameters = tt
response_spared LoadParameters = tt

latched_spared : T (every (spared (named ExceptionReset) latched_status latched_size) rows)
unfolding rows every spared named own latched pick held
latched_spared = tt

-- status and response byte 0 are no other row's
module _ (c : Command) (code : ℕ) (values : List ℕ) (long : length values ≡ 1024) where
  inside-values : (status_of c + 2 ≤ 1024)
  unfolding status_of
  inside-values = go c
    where
      go : (c : Command) → status_of c + 2 ≤ 1024
      go DeviceReset = omega arith
      go ExceptionReset = omega arith
      go StoreParameters = omega arith
      go LoadParameters = omega arith

  half_length : length (splice values (status_of c) (little 1 code)) ≡ 1024
  half_length = length-splice values (status_of c) (little 1 code) (omega (arith, inside-values, length-little 1 code)) ∙ long

  pub status_length : length (with_status c code values) ≡ 1024
  unfolding with_status
  status_length = length-splice _ (status_of c + 1) (little 1 code) (omega (arith, inside-values, half_length, length-little 1 code)) ∙ half_length

  pub status_leaves : (j : ℕ) → j < row_count → own c (at_row j) ≡ false → entry_of (at_row j) (with_status c code values) ≡ entry_of (at_row j) values
  unfolding with_status
  status_leaves j h e =
      let half : List ℕ = splice values (status_of c) (little 1 code) in
      spare (own c) (status_of c + 1) 1 (response_spared c) half (little 1 code) (le-leb (status_of c + 1) (length half) (omega (arith, inside-values, half_length))) (length-little 1 code) j h e
      ∙ spare (own c) (status_of c) 1 (status_spared c) values (little 1 code) (le-leb (status_of c) (length values) (omega (arith, inside-values))) (length-little 1 code) j h e

-- and neither the summary's nor the words' that it is worked out from
status_beside : (c : Command) → (beside (status_of c) 1 ≡ true) × (beside (status_of c + 1) 1 ≡ true)
unfolding status_of
status_beside DeviceReset = (refl, refl)
status_beside ExceptionReset = (refl, refl)
status_beside StoreParameters = (refl, refl)
status_beside LoadParameters = (refl, refl)

pub status_summed : (c : Command) (code : ℕ) (values : List ℕ) → length values ≡ 1024 → Summed values → Summed (with_status c code values)
unfolding with_status
status_summed c code values long h =
    let half : List ℕ = splice values (status_of c) (little 1 code) in
    summed_beside half (status_of c + 1) (little 1 code) (le-leb (status_of c + 1) (length half) (omega (arith, inside-values c code values long, half_length c code values long))) (rw length-little (status_beside c).1)
    (summed_beside values (status_of c) (little 1 code) (le-leb (status_of c) (length values) (omega (arith, inside-values c code values long))) (rw length-little (status_beside c).0) h)

module _ (values : List ℕ) (long : length values ≡ 1024) where
  latched-length : length (splice values latched_status (replicate latched_size 0)) ≡ 1024
  latched-length = splice-length values latched_status (replicate latched_size 0) (rw long) ∙ long

  pub cleared_length : length (exceptions_cleared values) ≡ 1024
  unfolding exceptions_cleared
  cleared_length = summary_length _ latched-length

  pub cleared_summed : Summed (exceptions_cleared values)
  unfolding exceptions_cleared
  cleared_summed = summed_anew _ latched-length

  pub cleared_leaves : (j : ℕ) → j < row_count → named ExceptionReset (at_row j) ≡ false → entry_of (at_row j) (exceptions_cleared values) ≡ entry_of (at_row j) values
  unfolding exceptions_cleared named
  cleared_leaves j h e =
      summary_leaves _ latched-length j h (none_of (own ExceptionReset (at_row j)) _ _ e).1
      ∙ spare (named ExceptionReset) latched_status latched_size latched_spared values (replicate latched_size 0) (rw long) refl j h e

-- a command other than device reset leaves every entry that is not named for it; device reset is power-up
module _ (m : Memory) (long : length m.values ≡ 1024) (j : ℕ) (there : j < row_count) where
  -- what is not named for a command is not its own
  not_own : (c : Command) → named c (at_row j) ≡ false → own c (at_row j) ≡ false
  unfolding named
  not_own DeviceReset d = d
  not_own ExceptionReset d = (none_of (own ExceptionReset (at_row j)) (is_summary (at_row j)) (latched (at_row j)) d).0
  not_own StoreParameters d = d
  not_own LoadParameters d = (none_of (own LoadParameters (at_row j)) (is_summary (at_row j)) (eqb (at_row j).nv 1) d).0

  -- a load does not name it: it is not the summary and has no NV mark
  not-loaded : named LoadParameters (at_row j) ≡ false → (is_summary (at_row j) ≡ false) × ((at_row j).nv ≡ 1 → ⊥)
  unfolding named
  not-loaded d = let n = none_of (own LoadParameters (at_row j)) _ _ d in (n.1, eqb-false (at_row j).nv 1 n.2)

  done_leaves : (c : Command) (n : Memory) → named c (at_row j) ≡ false → done c m ≡ stored n → entry_of (at_row j) n.values ≡ entry_of (at_row j) m.values
  unfolding done block_taken
  done_leaves DeviceReset n d e = absurd (let z : ◌≡◌ {A = ℕ} 0 1 = cc in omega arith)
  done_leaves ExceptionReset n d e =
      rw (← only_one _ n e)
      (status_leaves ExceptionReset 0 (exceptions_cleared m.values) (cleared_length m.values long) j there (not_own ExceptionReset d) ∙ cleared_leaves m.values long j there d)
  done_leaves StoreParameters n d e = rw (← only_one _ n e) (status_leaves StoreParameters _ m.values long j there (not_own StoreParameters d))
  done_leaves LoadParameters n d e =
      rw (← only_one _ n e)
      (status_leaves LoadParameters _ (block_taken m.block m.values) (taken-length m.block m.values long) j there (not_own LoadParameters d)
      ∙ heeding_leaves (loaded m.block m.values) (length-loaded m.block m.values long) (loadable m.block) j there (rw (not-loaded d).0 (and-false (loadable m.block)))
      ∙ load_other m.block m.values long j there (not-loaded d).1)

  pub command_leaves : (c : Command) (bytes : List ℕ) (n : Memory) → named c (at_row j) ≡ false → obeyed c bytes m ≡ stored n → entry_of (at_row j) n.values ≡ entry_of (at_row j) m.values
  unfolding obeyed
  command_leaves c bytes n d e = go (same_bytes bytes (word_of c)) e
    where
      go : (b : Bool) → cond b (done c m) (stored (with_values m (with_status c 2 m.values))) ≡ stored n → entry_of (at_row j) n.values ≡ entry_of (at_row j) m.values
      go true e = done_leaves c n d e
      go false e = rw (← only_one _ n e) (status_leaves c 2 m.values long j there (not_own c d))
