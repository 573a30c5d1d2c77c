-- The calls by cases, as the code takes them: each law takes what the calls ensure. Assumes nothing.
use mathlib.Core.Path.{◌≡◌, refl, sym, ap, ap₂, subst, ◌∙◌}
use mathlib.Core.Bool.{Bool, true, false, cond, not, ◌&&◌, ◌||◌, or-false, false≢true}
use mathlib.Core.List.{List, [], ◌++◌}
use mathlib.Core.Option.{none, some}
use Prim.Native.Nat.{ℕ, ◌<◌, ◌≤◌}
use native.Mathlib.Omega.{arith}
use lib.Ieee.{Float}
use lib.Dec.{eqb, leb}
use lib.ListN.{length, drop}
use borrow.Author.Tests.{eqb-true, eq-eqb, ne_eqb, le-leb, lt-leb}
use Rattle.wire.specs.Splice.{splice}
use Rattle.wire.specs.Little.{little}
use Rattle.order.specs.Talk.{announced, Request, open_read, next_part, expedited, open_write, send_part, give_up, unknown, Answer, opened, part_given, write_opened, part_taken, refused, dropped, no_transfer, silent}
use Rattle.order.specs.Serve.{serve}
use Rattle.order.specs.Keep.{Spoken, speak}
use Rattle.order.proofs.Answers.{Awaits, Given, answers}
use Rattle.trip.specs.declared.Trips.{Trips}
use Rattle.sample.specs.Sample.{values_after, trips_after}
use Rattle.sample.specs.Image.{image_of}
use Rattle.gauge.specs.PowerUp.{fresh_values}
use Rattle.sdo.specs.declared.Key.{Key}
use Rattle.sdo.specs.declared.Opening.TheVariants.{Value, Own, Announced, Unsaid}
use Rattle.sdo.specs.declared.Message.{Message}
use Rattle.sdo.specs.declared.Message.TheVariants.{SendPart, OpenWrite, OpenRead, NextPart, Unknown}
use Rattle.std.specs.Prelude.{Some, None, Ok, Err}
use Rattle.sdo.specs.Eight.{heard_of, request_heard, ask_of, answer_of, short, eight, eight_bytes}
use Rattle.sdo.specs.Long.{opening_with, asked_with, ask_long, long_form, long_answer}
use Rattle.sdo.proofs.HeardLaws.{ask_is}
use Rattle.sdo.proofs.LongTrip.{long_request}
use Rattle.mailbox.specs.declared.Head.{Head}
use Rattle.mailbox.specs.declared.Unfit.{Unfit}
use Rattle.mailbox.specs.declared.Unfit.TheVariants.{Misshapen, NotSdo}
use Rattle.mailbox.specs.Mail.{mailbox_size, head_of, counter_in, mail_of, sdo_in, service_of, mailed, mail_answer, mailboxes}
use Rattle.transfer.specs.Records.{zero_record, view, base, lay, transfers}
use Rattle.state.specs.State.{state_size, record_place, record_at, record_bytes, trips_place, trips_at, trips_bytes, form_at, fresh_state, settled}
use Rattle.line.specs.Gauge.{sampled, plain, store_of}
use Rattle.line.specs.Serving.{Told, told, told_by, message_told}
use Rattle.post.specs.Delivery.{mail_told}
use Rattle.board.specs.Calls.{refused_for, number_of, sized, called, number_by, served, hears_eight, message_call, mail_call, mailbox_call, powered, boxed_by, with_form, power_up_call, fed, fed_by, sample_call, shown, image_call}

-- ---- lengths

module _ (v b s : List ℕ) where
  pub bad_values : (length v ≡ 1024 → ⊥) → sized v b s ≡ false
  unfolding sized
  bad_values n = rw (ne_eqb (length v) 1024 n)

  pub bad_block : length v ≡ 1024 → (length b ≡ 512 → ⊥) → sized v b s ≡ false
  unfolding sized
  bad_block e n = rw (eq-eqb (length v) 1024 e, ne_eqb (length b) 512 n)

  pub bad_state : length v ≡ 1024 → length b ≡ 512 → (length s ≡ state_size → ⊥) → sized v b s ≡ false
  unfolding sized
  bad_state e f n = rw (eq-eqb (length v) 1024 e, eq-eqb (length b) 512 f, ne_eqb (length s) state_size n)

  pub all-sized : length v ≡ 1024 → length b ≡ 512 → length s ≡ state_size → sized v b s ≡ true
  unfolding sized
  all-sized e f g = rw (eq-eqb (length v) 1024 e, eq-eqb (length b) 512 f, eq-eqb (length s) state_size g)

-- ---- which line speaks in eight bytes

module _ (line : ℕ) (s : List ℕ) where
  pub tool_hears : {f : Bool} → line ≡ 0 → f ≡ form_at s → not f ≡ hears_eight line s
  unfolding hears_eight
  tool_hears e q = rw (e, q)

  pub other_hears : (line ≡ 0 → ⊥) → eqb line 1 ≡ hears_eight line s
  unfolding hears_eight
  other_hears n = rw (ne_eqb line 0 n) (sym (or-false (eqb line 1)))

  pub heard-line : hears_eight line s ≡ true → line ≤ 1
  unfolding hears_eight
  heard-line e = go (eqb line 1) (eqb line 0) (eqb-true line 1) (eqb-true line 0) e
    where
      go : (c d : Bool) → (c ≡ true → line ≡ 1) → (d ≡ true → line ≡ 0) → (c || (d && not (form_at s))) ≡ true → line ≤ 1
      go true d p q h = let z : line ≡ 1 = p refl in omega arith
      go false true p q h = let z : line ≡ 0 = q refl in omega arith
      go false false p q h = absurd (false≢true h)

-- ---- gauge_message: the refusals in their order

module _ (line : ℕ) (m v b s a : List ℕ) where
  pub no_memory : sized v b s ≡ false → called 4 v b s a ≡ message_call line m v b s a
  unfolding message_call
  no_memory e = rw e

  module _ (good : sized v b s ≡ true) where
    pub no_line : hears_eight line s ≡ false → called 3 v b s a ≡ message_call line m v b s a
    unfolding message_call
    no_line h = rw (good, h)

    module _ (on_line : hears_eight line s ≡ true) where
      pub no_room : length a < 8 → called 2 v b s a ≡ message_call line m v b s a
      unfolding message_call
      no_room h = rw (good, on_line, lt-leb 8 (length a) h)

      module _ (room : 8 ≤ length a) where
        pub no_message : (length m ≡ 8 → ⊥) → called 1 v b s a ≡ message_call line m v b s a
        unfolding message_call
        no_message n = rw (good, on_line, le-leb 8 (length a) room, ne_eqb (length m) 8 n)

        pub is_served : length m ≡ 8 → served line (speak plain transfers eight_bytes (store_of v b s) (record_at s (record_place line)) m) s a ≡ message_call line m v b s a
        unfolding message_call
        is_served e = rw (good, on_line, le-leb 8 (length a) room, eq-eqb (length m) 8 e)

-- ---- gauge_mailbox: the refusals in their order

module _ (m v b s a : List ℕ) where
  -- where the mailbox is chosen
  pub mail_unfit : (unfit : Unfit) → mail_of m ≡ Err unfit → called (number_of (Err (refused_for unfit))) v b s a ≡ mail_call m v b s a
  unfolding mail_call number_of
  mail_unfit Misshapen e = rw e
  mail_unfit NotSdo e = rw e

  module _ (h : Head) (asks : mail_of m ≡ Ok h) where
    pub mail_no_room : length a < mailbox_size → called 2 v b s a ≡ mail_call m v b s a
    unfolding mail_call
    mail_no_room q = rw (asks, lt-leb mailbox_size (length a) q)

    pub mail_is_served : mailbox_size ≤ length a → served 0 (speak plain transfers mailboxes (store_of v b s) (record_at s (record_place 0)) m) s a ≡ mail_call m v b s a
    unfolding mail_call
    mail_is_served q = rw (asks, le-leb mailbox_size (length a) q)

  pub no_mail_memory : sized v b s ≡ false → called 4 v b s a ≡ mailbox_call m v b s a
  unfolding mailbox_call
  no_mail_memory e = rw e

  module _ (good : sized v b s ≡ true) where
    pub not_chosen : form_at s ≡ false → called 3 v b s a ≡ mailbox_call m v b s a
    unfolding mailbox_call
    not_chosen h = rw (good, h)

    pub is_chosen : form_at s ≡ true → mail_call m v b s a ≡ mailbox_call m v b s a
    unfolding mailbox_call
    is_chosen h = rw (good, h)

-- ---- gauge_message: a message is served

-- an answer that is given is eight bytes, and so not none
number_given : (t : Answer Key) → Given t → number_by (answer_of t) ≡ 0
unfolding number_by answer_of Given
number_given (opened k n bytes true) h = refl
number_given (opened k n bytes false) h = refl
number_given (part_given u bytes last) h = refl
number_given (write_opened k) h = refl
number_given (part_taken u) h = refl
number_given (refused k c) h = refl
number_given (dropped k c) h = refl
number_given no_transfer h = refl
number_given silent h = absurd h

-- a message that asks is no client's abort
asks-answer : (said : Message) (m : List ℕ) → Awaits (request_heard (Some said) m)
unfolding request_heard Awaits
asks-answer (SendPart u n last) m = tt
asks-answer (OpenWrite k (Value n)) m = tt
asks-answer (OpenWrite k Own) m = tt
asks-answer (OpenWrite k (Announced n)) m = tt
asks-answer (OpenWrite k Unsaid) m = tt
asks-answer (OpenRead k) m = tt
asks-answer (NextPart u) m = tt
asks-answer Unknown m = tt

module _ (line : ℕ) (m v b s a : List ℕ) where
  abbrev said-on : ℕ → Spoken plain transfers
  said-on at = speak plain transfers eight_bytes (store_of v b s) (record_at s at) m

  pub abort_served : {at : ℕ} {s' : List ℕ} → at ≡ record_place line → heard_of m ≡ None → s' ≡ splice s at (record_bytes zero_record)
      → called 5 v b s' a ≡ served line (said-on (record_place line)) s a
  unfolding speak serve served settled number_by splice base lay answer_of request_heard
  abort_served ea eh es = rw (ask_is m None eh, es, ea)

  answered : (said : Message) → heard_of m ≡ Some said → number_by (said-on (record_place line)).bytes ≡ 0
  unfolding speak
  answered said eh =
      number_given _ (answers plain eight (store_of v b s) (view (record_at s (record_place line))) (ask_of m) (subst Awaits (sym (ask_is m (Some said) eh)) (asks-answer said m)))

  -- what the line leaves, with the number of an answer
  pub answer-served : {at : ℕ} {v' b' s' a' : List ℕ} → at ≡ record_place line → (said : Message) → heard_of m ≡ Some said → told v' b' s' a' ≡ message_told at m v b s a
      → called 0 v' b' s' a' ≡ served line (said-on (record_place line)) s a
  unfolding served told_by
  answer-served ea said eh et =
      let here : told _ _ _ _ ≡ told_by (record_place line) s a (said-on (record_place line)) = et ∙ ap (λ (p : ℕ). message_told p m v b s a) ea in
      rw (answered said eh) (ap (λ (t : Told). called 0 t.values t.block t.state t.answer) here)

-- ---- gauge_mailbox: a mailbox is served

mail_given : (h : Head) (t : Answer Key) → Given t → number_by (mail_answer h t) ≡ 0
unfolding number_by mail_answer mailed long_answer answer_of little Given
mail_given h (opened k n bytes all) g = go (short n)
  where
    go : (d : Bool) → number_by (mailed h.address (counter_in h) (service_of (opened k n bytes all)) (cond d (answer_of (opened k n bytes true)) (answer_of (opened k n [] false) ++ bytes))) ≡ 0
    go true = refl
    go false = refl
mail_given h (part_given u bytes last) g = refl
mail_given h (write_opened k) g = refl
mail_given h (part_taken u) g = refl
mail_given h (refused k c) g = refl
mail_given h (dropped k c) g = refl
mail_given h no_transfer g = refl
mail_given h silent g = absurd g

-- an SDO that asks is no client's abort, whatever stands behind its eight bytes
still_asks : (q : Request Key) (s : List ℕ) → Awaits q → Awaits (asked_with q s)
unfolding asked_with opening_with Awaits
still_asks (open_read k) s w = w
still_asks (next_part u) s w = w
still_asks (expedited k x bytes) s w = w
still_asks (open_write k none bytes) s w = tt
still_asks (open_write k (some n) bytes) s w = go (leb n (length (drop 8 s)))
  where
    go : (d : Bool) → Awaits (cond d (expedited k (announced n) (drop 8 s)) (open_write k (some n) (drop 8 s)))
    go true = tt
    go false = tt
still_asks (send_part u bytes last) s w = w
still_asks give_up s w = absurd w
still_asks unknown s w = w

module _ (m v b s a : List ℕ) where
  abbrev mailed-on : Spoken plain transfers
  mailed-on = speak plain transfers mailboxes (store_of v b s) (record_at s (record_place 0)) m

  module _ {sdo : List ℕ} (inside : sdo ≡ sdo_in m) where
    pub abort_mailed : {s' : List ℕ} → heard_of sdo ≡ None → s' ≡ splice s 0 (record_bytes zero_record) → called 5 v b s' a ≡ served 0 mailed-on s a
    unfolding speak serve served settled number_by splice base lay mail_answer mailed long_answer answer_of request_heard asked_with
    abort_mailed eh es = rw (← inside, long_request sdo None eh, es)

    pub answer-mailed : {h : Head} {v' b' s' a' : List ℕ} → h ≡ head_of m → (said : Message) → heard_of sdo ≡ Some said → told v' b' s' a' ≡ mail_told 0 h sdo v b s a → called 0 v' b' s' a' ≡ served 0 mailed-on s a
    unfolding served told_by speak
    answer-mailed {h} eh said ea et =
        let asks : Awaits (ask_long (sdo_in m)) = subst Awaits (sym (long_request sdo (Some said) ea) ∙ ap ask_long inside) (still_asks (request_heard (Some said) sdo) sdo (asks-answer said sdo)) in
        let there : number_by mailed-on.bytes ≡ 0 = mail_given (head_of m) _ (answers plain long_form (store_of v b s) (view (record_at s (record_place 0))) (ask_long (sdo_in m)) asks) in
        let here : told _ _ _ _ ≡ told_by 0 s a mailed-on = et ∙ ap₂ (λ (x : Head) (y : List ℕ). mail_told 0 x y v b s a) eh inside in
        rw there (ap (λ (t : Told). called 0 t.values t.block t.state t.answer) here)

-- ---- gauge_power_up

module _ (form : ℕ) (v b s : List ℕ) where
  pub no_power : sized v b s ≡ false → powered 4 v s ≡ power_up_call form v b s
  unfolding power_up_call
  no_power e = rw e

  pub power_done : {v' s' s'' : List ℕ} → sized v b s ≡ true → v' ≡ fresh_values b → s' ≡ fresh_state s → s'' ≡ with_form (boxed_by form) s' → powered 0 v' s'' ≡ power_up_call form v b s
  unfolding power_up_call
  power_done e ev es ef = rw (e, ev, ef, es)

-- ---- gauge_sample

module _ (p : Float) (valid faults seconds : ℕ) (v s : List ℕ) where
  pub no_values : (length v ≡ 1024 → ⊥) → fed 4 v s ≡ sample_call p valid faults seconds v s
  unfolding sample_call
  no_values n = rw (ne_eqb (length v) 1024 n)

  pub no_state : length v ≡ 1024 → (length s ≡ state_size → ⊥) → fed 4 v s ≡ sample_call p valid faults seconds v s
  unfolding sample_call
  no_state e n = rw (eq-eqb (length v) 1024 e, ne_eqb (length s) state_size n)

  pub sample-done : {on next : Trips} {v' s' : List ℕ} → length v ≡ 1024 → length s ≡ state_size → on ≡ trips_at s → next ≡ trips_after v on p valid
      → v' ≡ values_after v on p valid faults seconds → s' ≡ splice s trips_place (trips_bytes next) → fed 0 v' s' ≡ sample_call p valid faults seconds v s
  unfolding sample_call fed_by sampled
  sample-done e f eo en ev es = rw (eq-eqb (length v) 1024 e, eq-eqb (length s) state_size f, ev, es, en, eo)

-- ---- gauge_image

module _ (v i : List ℕ) where
  pub image-values : (length v ≡ 1024 → ⊥) → shown 4 i ≡ image_call v i
  unfolding image_call
  image-values n = rw (ne_eqb (length v) 1024 n)

  pub image-room : length v ≡ 1024 → length i < 10 → shown 2 i ≡ image_call v i
  unfolding image_call
  image-room e h = rw (eq-eqb (length v) 1024 e, lt-leb 10 (length i) h)

  pub image-done : {i' : List ℕ} → length v ≡ 1024 → 10 ≤ length i → i' ≡ splice i 0 (image_of v) → shown 0 i' ≡ image_call v i
  unfolding image_call
  image-done e h q = rw (eq-eqb (length v) 1024 e, le-leb 10 (length i) h, q)
