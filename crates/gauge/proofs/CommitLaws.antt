-- A whole read and a whole write by cases, as the code takes them: each law takes what the calls ensure. Assumes nothing.
use mathlib.Core.Path.{◌≡◌, refl, sym, ap, ap₂, ◌∙◌}
use mathlib.Core.Bool.{Bool, true, false, cond, ◌||◌}
use mathlib.Core.List.{List}
use mathlib.Core.Option.{Option, none, some}
use Prim.Native.Nat.{ℕ, ◌≤◌, ◌<◌}
use native.Mathlib.Omega.{arith}
use lib.ListN.{replicate}
use borrow.Author.Tests.{eq-eqb, ne_eqb}
use Rattle.std.specs.Prelude.{Result, Ok, Err}
use Rattle.wire.specs.Splice.{splice}
use Rattle.order.specs.Talk.{Outcome, stored, declined}
use Rattle.order.specs.Gauge.{counted}
use Rattle.table.specs.Row.{Row, CARD, COMMAND}
use Rattle.table.specs.Rows.{row_count, at_row}
use Rattle.table.specs.Rule.{held}
use Rattle.table.proofs.Widths.{card_width}
use Rattle.table.proofs.Table.{row_rule}
use Rattle.limits.specs.Limits.{within, abort_for, verdict_code, row_verdict}
use Rattle.entry.specs.Entry.{entry_of, copied, with_entry}
use Rattle.limits.specs.declared.Outside.{Outside}
use Rattle.limits.specs.declared.Outside.TheVariants.{NotANumber, Above, Below}
use Rattle.entry.proofs.RowLaws.{held_is}
use Rattle.card.specs.Card.{card_of, card_verdict, with_card}
use Rattle.block.specs.Saved.{storable, stored_block, loadable}
use Rattle.table.specs.Codes.{lock_shut, left_crossed, code_of as abort_code}
use Rattle.table.specs.declared.code.AbortCode.{AbortCode}
use Rattle.table.specs.declared.code.AbortCode.TheVariants.{IndexAbsent, SubindexAbsent, WriteOnly, ReadOnly, TooLong, TooShort, LockShut, NotANumber as NoNumber, TooHigh, TooLow, LeftCrossed}
use Rattle.table.specs.Find.{row_number}
use Rattle.table.specs.Places.{is_mask}
use Rattle.gate.specs.Lock.{locked}
use Rattle.command.specs.Words.{command_at, word_of, read_word, with_status, same_bytes}
use Rattle.command.specs.Exceptions.{exceptions_cleared}
use Rattle.command.specs.declared.word.Command.{Command}
use Rattle.command.specs.declared.word.Command.TheVariants.{DeviceReset, ExceptionReset, StoreParameters, LoadParameters}
use Rattle.gauge.specs.Memory.{Memory, memory_of, with_values}
use Rattle.gauge.specs.Masks.{heeding}
use Rattle.gauge.specs.Written.{with_value, crosses_1, crosses_2}
use Rattle.gauge.specs.PowerUp.{block_taken, fresh_values, powered_up}
use Rattle.gauge.specs.Commands.{status_by, done, obeyed}
use Rattle.gauge.specs.Endings.{told_ending, Left, left, left_by}
use Rattle.gauge.specs.Checks.{asked_last, Test, code_of, verdict_of, fails, last_order, refused_by, unless_refused, code_told, code_in}
use Rattle.gauge.specs.Whole.{value_of, effect, write_by, commit_row}
use Rattle.gauge.specs.declared.commit.Accepted.TheVariants.{Plainly, Restarting}
use Rattle.gauge.proofs.InOrder.{none_told}
use Rattle.gauge.proofs.WrittenLaws.{written_card, written_entry}

-- ---- by type

module _ (r : Row) (values : List ℕ) where
  pub value_card : r.kind ≡ CARD → value_of r values ≡ card_of values
  unfolding value_of
  value_card e = rw (eq-eqb r.kind CARD e)

  pub value_command : r.kind ≡ COMMAND → value_of r values ≡ read_word (command_at r.index)
  unfolding value_of
  value_command e = rw e

  pub value_other : (r.kind ≡ CARD → ⊥) → (r.kind ≡ COMMAND → ⊥) → value_of r values ≡ entry_of r values
  unfolding value_of
  value_other n m = rw (ne_eqb r.kind CARD n, ne_eqb r.kind COMMAND m)

module _ (r : Row) (bytes : List ℕ) (m : Memory) where
  pub effect_command : r.kind ≡ COMMAND → effect r bytes m ≡ obeyed (command_at r.index) bytes m
  unfolding effect
  effect_command e = rw (eq-eqb r.kind COMMAND e)

  pub effect_other : (r.kind ≡ COMMAND → ⊥) → effect r bytes m ≡ stored (with_values m (with_value r m.values bytes))
  unfolding effect
  effect_other n = rw (ne_eqb r.kind COMMAND n)

pub card_length : (k : ℕ) → k < row_count → (at_row k).kind ≡ CARD → (at_row k).len ≡ 33
card_length k h e = card_width (at_row k) (row_rule k h) e

pub other_held : (k : ℕ) → k < row_count → ((at_row k).kind ≡ CARD → ⊥) → ((at_row k).kind ≡ COMMAND → ⊥) → held (at_row k) ≡ (at_row k).len
other_held k h n m = held_is (at_row k) (below (at_row k).kind (row_rule k h).kind_known n m)
  where
    below : (j : ℕ) → j ≤ COMMAND → (j ≡ CARD → ⊥) → (j ≡ COMMAND → ⊥) → j < CARD
    below j l a b = omega arith

-- ---- the last checks

pub outside_some : (o : Outside) → verdict_code (Err o) ≡ 0 → ⊥
unfolding verdict_code
outside_some NotANumber e = omega (arith, e)
outside_some Above e = omega (arith, e)
outside_some Below e = omega (arith, e)

-- what is refused for its value, by its code
pub outside_code : (o : Outside) → abort_code (abort_for o) ≡ verdict_code (Err o)
unfolding abort_for verdict_code
outside_code NotANumber = refl
outside_code Above = refl
outside_code Below = refl

-- no abort has the code 0
refused-some : (r : AbortCode) → abort_code r ≡ 0 → ⊥
refused-some IndexAbsent e = omega (arith, e)
refused-some SubindexAbsent e = omega (arith, e)
refused-some WriteOnly e = omega (arith, e)
refused-some ReadOnly e = omega (arith, e)
refused-some TooLong e = omega (arith, e)
refused-some TooShort e = omega (arith, e)
refused-some LockShut e = omega (arith, e)
refused-some NoNumber e = omega (arith, e)
refused-some TooHigh e = omega (arith, e)
refused-some TooLow e = omega (arith, e)
refused-some LeftCrossed e = omega (arith, e)

module _ (row : ℕ) (values bytes : List ℕ) where
  pub lock_refuses : locked (at_row row) values ≡ true → lock_shut ≡ code_told (refused_by (asked_last row bytes values) last_order)
  unfolding refused_by last_order fails unless_refused code_of row_number
  lock_refuses e = rw e

  module _ (open-lock : locked (at_row row) values ≡ false) where
    -- the three tests of the limits give the verdict's own code
    pub limits_refuse : (o : Outside) → verdict_of (at_row row) bytes ≡ Err o → verdict_code (Err o) ≡ code_told (refused_by (asked_last row bytes values) last_order)
    unfolding refused_by last_order fails unless_refused code_of row_number counted verdict_code
    limits_refuse NotANumber e = rw (open-lock, e)
    limits_refuse Above e = rw (open-lock, e)
    limits_refuse Below e = rw (open-lock, e)

    -- within the limits, the two tests of the trip points are left
    points_left : verdict_of (at_row row) bytes ≡ within → (one two : Bool) → crosses_1 (at_row row) values bytes ≡ one → crosses_2 (at_row row) values bytes ≡ two
        → cond (one || two) left_crossed 0 ≡ code_told (refused_by (asked_last row bytes values) last_order)
    unfolding refused_by last_order fails unless_refused code_of row_number counted verdict_code
    points_left e true two p q = rw (open-lock, e, p)
    points_left e false true p q = rw (open-lock, e, p, q)
    points_left e false false p q = rw (open-lock, e, p, q)

    pub points_told : verdict_of (at_row row) bytes ≡ within → {b : Bool} → b ≡ (crosses_1 (at_row row) values bytes || crosses_2 (at_row row) values bytes)
        → cond b left_crossed 0 ≡ code_told (refused_by (asked_last row bytes values) last_order)
    points_told e q = ap (λ (b : Bool). cond b left_crossed 0) q ∙ points_left e _ _ refl refl

module _ (r : Row) (bytes : List ℕ) where
  pub card_judged : r.kind ≡ CARD → verdict_of r bytes ≡ card_verdict bytes
  unfolding verdict_of
  card_judged e = rw (eq-eqb r.kind CARD e)

  pub entry_judged : (r.kind ≡ CARD → ⊥) → verdict_of r bytes ≡ row_verdict r bytes
  unfolding verdict_of
  entry_judged n = rw (ne_eqb r.kind CARD n)

-- ---- commands

module _ (v b : List ℕ) where
  pub reset-done : {v' : List ℕ} → v' ≡ fresh_values b → left (Ok Restarting) v' b ≡ left_by (memory_of v b) (done DeviceReset (memory_of v b))
  unfolding done left_by told_ending powered_up
  reset-done e = rw e

  pub exceptions_done : {v₁ v₂ : List ℕ} → v₁ ≡ exceptions_cleared v → v₂ ≡ with_status ExceptionReset 0 v₁
      → left (Ok Plainly) v₂ b ≡ left_by (memory_of v b) (done ExceptionReset (memory_of v b))
  unfolding done left_by told_ending
  exceptions_done e₁ e₂ = rw (e₂, e₁)

  pub store-done : {v' b' : List ℕ} {right : Bool} {code : ℕ} → right ≡ storable v → b' ≡ stored_block v b → code ≡ status_by right
      → v' ≡ with_status StoreParameters code v → left (Ok Plainly) v' b' ≡ left_by (memory_of v b) (done StoreParameters (memory_of v b))
  unfolding done left_by told_ending
  store-done er eb ec ev = rw (ev, eb, ec, er)

  pub load_done : {v₁ v₂ : List ℕ} {right : Bool} {code : ℕ} → right ≡ loadable b → v₁ ≡ block_taken b v → code ≡ status_by right
      → v₂ ≡ with_status LoadParameters code v₁ → left (Ok Plainly) v₂ b ≡ left_by (memory_of v b) (done LoadParameters (memory_of v b))
  unfolding done left_by told_ending
  load_done er e₁ ec e₂ = rw (e₂, e₁, ec, er)

  pub word_right : (c : Command) (bytes : List ℕ) → same_bytes bytes (word_of c) ≡ true → obeyed c bytes (memory_of v b) ≡ done c (memory_of v b)
  unfolding obeyed
  word_right c bytes e = rw e

  pub word_wrong : (c : Command) (bytes : List ℕ) {v' : List ℕ} → same_bytes bytes (word_of c) ≡ false → v' ≡ with_status c 2 v
      → left (Ok Plainly) v' b ≡ left_by (memory_of v b) (obeyed c bytes (memory_of v b))
  unfolding obeyed left_by told_ending
  word_wrong c bytes e q = rw (e, q)

  -- ---- what an accepted write does

  module _ (r : Row) (bytes : List ℕ) (k : ℕ) (kind : k ≡ r.kind) where
    put_written : {v' : List ℕ} → (k ≡ COMMAND → ⊥) → v' ≡ with_value r v bytes → left (Ok Plainly) v' b ≡ left_by (memory_of v b) (effect r bytes (memory_of v b))
    unfolding left_by told_ending
    put_written n q = rw (effect_other r bytes (memory_of v b) (λ e. n (kind ∙ e)), q)

    pub put_card : {v' : List ℕ} → k ≡ CARD → v' ≡ with_card v bytes → left (Ok Plainly) v' b ≡ left_by (memory_of v b) (effect r bytes (memory_of v b))
    put_card e q = put_written (λ c. omega arith) (q ∙ sym (written_card r v bytes (sym kind ∙ e)))

    pub put_command : {x : Left} → k ≡ COMMAND → x ≡ left_by (memory_of v b) (obeyed (command_at r.index) bytes (memory_of v b))
        → x ≡ left_by (memory_of v b) (effect r bytes (memory_of v b))
    put_command e q = rw (effect_command r bytes (memory_of v b) (sym kind ∙ e)) q

    pub put_other : {v₁ v₂ : List ℕ} {came : Bool} → (k ≡ CARD → ⊥) → (k ≡ COMMAND → ⊥) → v₁ ≡ with_entry r v bytes → came ≡ is_mask r → v₂ ≡ heeding came v₁
        → left (Ok Plainly) v₂ b ≡ left_by (memory_of v b) (effect r bytes (memory_of v b))
    put_other n m q₁ e q₂ = put_written m (q₂ ∙ ap₂ heeding e q₁ ∙ sym (written_entry r v bytes (λ c. n (kind ∙ c))))

  module _ (o : Option Test) (done : Outcome Memory) where
    refused-left : (abort : AbortCode) → abort_code abort ≡ code_told o → left (Err abort) v b ≡ left_by (memory_of v b) (unless_refused o declined done)
    unfolding unless_refused left_by told_ending
    refused-left abort first = go o first
      where
        go : (o : Option Test) → abort_code abort ≡ code_told o → left (Err abort) v b ≡ left_by (memory_of v b) (unless_refused o declined done)
        go none e = absurd (refused-some abort e)
        go (some t) e = rw e

    accepted_left : {x : Left} → 0 ≡ code_told o → x ≡ left_by (memory_of v b) done → x ≡ left_by (memory_of v b) (unless_refused o declined done)
    unfolding unless_refused
    accepted_left first q = rw (none_told o (sym first)) q

  module _ (row : ℕ) (bytes : List ℕ) {checked : Result (Unit {0}) AbortCode} (first : code_in checked ≡ code_told (refused_by (asked_last row bytes v) last_order)) where
    pub commit-refused : (abort : AbortCode) → checked ≡ Err abort → left (Err abort) v b ≡ left_by (memory_of v b) (commit_row row bytes (memory_of v b))
    unfolding commit_row write_by counted row_number code_in
    commit-refused abort e = refused-left _ _ abort (ap code_in (sym e) ∙ first)

    pub commit_accepted : {x : Left} → checked ≡ Ok tt → x ≡ left_by (memory_of v b) (effect (at_row row) bytes (memory_of v b)) → x ≡ left_by (memory_of v b) (commit_row row bytes (memory_of v b))
    unfolding commit_row write_by counted row_number code_in
    commit_accepted e q = accepted_left _ _ (ap code_in (sym e) ∙ first) q

-- ---- the value of a row

-- what is neither stored nor the card is a command word
pub word_left : (row kind : ℕ) → row < row_count → kind ≡ (at_row row).kind → CARD ≤ kind → (kind ≡ CARD → ⊥) → (at_row row).kind ≡ COMMAND
word_left row kind h e l n = omega (arith, (row_rule row h).kind_known, e, l, n)

module _ (r : Row) (values : List ℕ) (k : ℕ) (kind : k ≡ r.kind) where
  pub read_card : {x : List ℕ} → k ≡ CARD → x ≡ splice (replicate 64 0) 0 (card_of values) → x ≡ splice (replicate 64 0) 0 (value_of r values)
  read_card e q = rw (value_card r values (sym kind ∙ e)) q

  pub read_command : {x : List ℕ} → k ≡ COMMAND → x ≡ splice (replicate 64 0) 0 (read_word (command_at r.index)) → x ≡ splice (replicate 64 0) 0 (value_of r values)
  read_command e q = rw (value_command r values (sym kind ∙ e)) q

  pub read_other : {x : List ℕ} → (k ≡ CARD → ⊥) → (k ≡ COMMAND → ⊥) → x ≡ copied r values → x ≡ splice (replicate 64 0) 0 (value_of r values)
  unfolding copied
  read_other n m q = rw (value_other r values (λ e. n (kind ∙ e)) (λ e. m (kind ∙ e))) q
