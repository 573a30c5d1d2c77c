-- DEMAND 3, DOWN TO THE EXPORTED CALLS, whatever form power-up is given: on lent arrays each call is a call of the board with its records by value, or no
-- event at all.
use Prim.Native.Nat.{ℕ, zero, suc, ◌≤◌, ◌<◌}
use native.Mathlib.Omega.{arith}
use mathlib.Core.Path.{◌≡◌, refl, sym, ap, subst, ◌∙◌, fun_ext}
use mathlib.Core.Logic.{◌⊎◌, inl, inr}
use mathlib.Core.Bool.{Bool, true, false, cond, not, false≢true, and-eq-true_iff}
use mathlib.Core.List.{List, [], ◌∷◌, map}
use mathlib.Core.Option
use mathlib.Core.Option.{Option, none, some}
use lib.Dec.{eqb}
use lib.ListN.{length}
use borrow.Author.Tests.{eqb-true, eqb-false, eq-eqb, ne_eqb, le-leb}
use Rattle.wire.specs.Splice.{splice}
use Rattle.wire.proofs.SpliceLaws.{part_same}
use Rattle.table.proofs.Walks.{lt_or_ge}
use Rattle.trip.specs.declared.Trips.{Trips}
use Rattle.trip.specs.Trip.{all_off}
use Rattle.sample.specs.Sample.{trips_after, values_after}
use Rattle.order.specs.Gauge.{results, end_of}
use Rattle.order.specs.Serve.{Speech, put_at}
use Rattle.order.specs.Observe.{Done}
use Rattle.order.specs.Promise.{ends_write, ops_of, got_of}
use Rattle.order.specs.Bytes.{Call, heard, sensed, client}
use Rattle.order.specs.Keep.{Spoken, speak, RecordBoard, record_call, record_talk, record_end, record_start, Demand3Records, Again}
use Rattle.order.proofs.Kept.{unfinished}
use Rattle.gauge.specs.Memory.{Store, memory_of}
use Rattle.gauge.specs.PowerUp.{fresh_values}
use Rattle.sdo.specs.declared.Key.{Key}
use Rattle.sdo.specs.Eight.{eight_bytes}
use Rattle.std.specs.Prelude.{Result, Ok, Err}
use Rattle.mailbox.specs.declared.Head.{Head}
use Rattle.mailbox.specs.declared.Unfit.{Unfit}
use Rattle.mailbox.specs.declared.Unfit.TheVariants.{Misshapen, NotSdo}
use Rattle.mailbox.specs.Mail.{mailbox_size, mail_of}
use Rattle.mailbox.specs.Lines.{Line, tool, service, Line-same, speech_of, size_of}
use Rattle.mailbox.proofs.LineLaws.{spoken-size}
use Rattle.transfer.specs.declared.Transfer.{Transfer}
use Rattle.transfer.specs.Records.{zero_record, view, transfers}
use Rattle.transfer.proofs.RecordLaws.{Whole, Small, served_small}
use Rattle.transfer.proofs.Kept.{next-served}
use Rattle.state.specs.State.{state_size, record_place, record_at, trips_place, trips_at, trips_bytes, form_at, fresh_state, settled}
use Rattle.line.specs.Gauge.{Sample, sampled, bag552, plain, store_of}
use Rattle.board.specs.Calls.{Called, Fed, number_of, sized, called, number_by, served, hears_eight, message_call, mailbox_call, boxed_by, with_form, power_up_call, powered, fed_by, sample_call}
use Rattle.board.proofs.CallLaws.{all-sized, no_line, no_room, no_message, is_served, not_chosen, is_chosen, mail_unfit, mail_no_room, mail_is_served}
use Rattle.demand3.specs.Firmware.{setup, Arrays, arrays, Exported, to_message, to_mailbox, to_sample, to_image, Back, back, by_sample, exported, history, final, power_on, line_of, answer_by, Answered, event_of, may_change, with_event, events, calls_in, observed, powered_store, store_in, line_number, board_in, Demand3Calls}
use Rattle.demand3.proofs.Lengths.{fresh-sized, sample-sized}
use Rattle.demand3.proofs.Bag552.{sound, real-rows, GoodStore, kept-records, all-clear, demand3_board}
use Rattle.demand3.proofs.Trips.{trips-kept}
use Rattle.demand3.proofs.States.{Records, place_of, Stands, as_read, whole-at, trips-set, form-set, fresh_set, settled-set}

-- what every run keeps: the arrays' lengths, and the form that power-up was given
pub record Fitting (boxed : Bool) (a : Arrays) : Type 0 where
  pub memory-sized : GoodStore (store_in a)
  pub state_is : length a.state ≡ state_size
  pub form_is : form_at a.state ≡ boxed

-- ---- one message: the arrays that it leaves stand for the board that `record_call` leaves

module _ (boxed : Bool) where
  -- the board with its records
  abbrev Board : Type 0
  Board = RecordBoard (setup boxed) transfers

  boards_same : {g g' : Store} {r r' : Records} → g ≡ g' → ((l : Line) → r l ≡ r' l) → ◌≡◌ {A = Board} (record { store = g; records = r }) (record { store = g'; records = r' })
  boards_same e f = rw (e, fun_ext f)

  pub whole_board : (a : Arrays) → Fitting boxed a → (l : Line) → Whole ((board_in boxed a).records l)
  whole_board a ok l = whole-at a.state ok.state_is l

  lent_stands : (a : Arrays) → Fitting boxed a → Stands a.state (board_in boxed a).records (trips_at a.state) boxed
  lent_stands a ok = subst (Stands a.state (board_in boxed a).records (trips_at a.state)) ok.form_is (as_read a.state ok.state_is)

  -- a message of line l that is served, as that line speaks
  module _ (a : Arrays) (ok : Fitting boxed a) (l : Line) (m : List ℕ) where
    abbrev own : Transfer
    own = (board_in boxed a).records l

    abbrev said : Spoken plain transfers
    said = speak plain transfers (speech_of boxed l) (store_in a) own m

    -- the arrays that the message leaves
    abbrev after : Arrays
    after = arrays said.store.memory.values said.store.memory.block (settled (place_of l) said.next said.reset a.state)

    -- what the message leaves is good and whole
    again : Again (setup boxed) transfers GoodStore Whole l (store_in a) own m
    again = (kept-records boxed).again l (store_in a) own m ok.memory-sized (whole_board a ok l)

    next_small : Small said.next
    next_small = served_small said.next (next-served bag552 real-rows (speech_of boxed l) (store_in a) ok.memory-sized own m (whole_board a ok l))

    left : Stands after.state (cond said.reset (λ k. zero_record) (put_at Line-same (board_in boxed a).records l said.next)) (cond said.reset all_off (trips_at a.state)) boxed
    left = settled-set (lent_stands a ok) l said.next again.whole next_small said.reset

    -- its answer has as many bytes as the line's answers have, or none
    said-size : (said.bytes ≡ []) ⊎ (length said.bytes ≡ size_of boxed l)
    unfolding speak
    said-size = spoken-size bag552 sound boxed l m (store_in a) (view own) ((speech_of boxed l).ask m)

    store-after : said.store ≡ store_in after
    store-after = ap (λ (t : Trips). record { memory = said.store.memory; trips = t }) (trips-kept (speech_of boxed l) (store_in a) own m ∙ sym left.trips)

    -- LAW: a message that is served is the board's call
    message_follows : record_call (setup boxed) transfers (board_in boxed a) (heard l m) ≡ (board_in boxed after, said.bytes)
    unfolding record_call
    message_follows = ap (λ (b : Board). (b, said.bytes)) (boards_same store-after (λ k. sym (left.records k)))

    after_lent : Fitting boxed after
    after_lent = record { memory-sized = subst GoodStore store-after again.good; state_is = left.long; form_is = left.form }

  -- ---- every call is a call of the board, or no event

  abbrev pub IsCall : Board → Board → Option (Answered boxed) → Type 0
  IsCall b b' none = b' ≡ b
  IsCall b b' (some p) = record_call (setup boxed) transfers b p.0 ≡ (b', p.1)

  -- what comes of a message of line l, which the observer reads so many bytes of an answer to
  abbrev HeardSo : Arrays → Line → List ℕ → ℕ → Called → Type 0
  HeardSo a l m size x =
      Fitting boxed (arrays x.values x.block x.state)
      × IsCall (board_in boxed a) (board_in boxed (arrays x.values x.block x.state)) (Option.map (λ bytes. (heard l m, bytes)) (answer_by size (back x.number x.answer)))

-- the observer reads the answer's bytes off the room
answer-read : (size : ℕ) (bytes room : List ℕ) → (bytes ≡ []) ⊎ (length bytes ≡ size) → answer_by size (back (number_by bytes) (splice room 0 bytes)) ≡ some bytes
unfolding answer_by number_by
answer-read size [] room e = refl
answer-read size (x ∷ xs) room (inl e) = let z : ◌≡◌ {A = ℕ} 0 1 = cc in absurd (omega arith)
answer-read size (x ∷ xs) room (inr e) = ap some (part_same room 0 (x ∷ xs) (le-leb 0 (length room) (omega arith)) size e)

-- there are two lines
unheard : (n : ℕ) (s : List ℕ) → hears_eight (suc (suc n)) s ≡ false
unfolding hears_eight
unheard n s = rw (ne_eqb (suc (suc n)) 1 (λ e. omega arith), ne_eqb (suc (suc n)) 0 (λ e. omega arith))

-- what holds of each line, as it speaks, holds of a message that is heard in eight bytes
by_hearing : (Is : ℕ → Line → Speech Key Key → ℕ → Type 0) (boxed : Bool) → ((l : Line) → Is (line_number l) l (speech_of boxed l) (size_of boxed l)) → (line : ℕ) (s : List ℕ)
    → form_at s ≡ boxed → hears_eight line s ≡ true → Is line (line_of line) eight_bytes 8
unfolding line_of hears_eight
by_hearing Is boxed each (suc zero) s e h = each service
by_hearing Is false each zero s e h = each tool
by_hearing Is true each zero s e h = absurd (false≢true (sym (ap not e) ∙ h))
by_hearing Is boxed each (suc (suc n)) s e h = absurd (false≢true (sym (unheard n s) ∙ h))

module _ (boxed : Bool) (a : Arrays) (ok : Fitting boxed a) where
  good_lengths : sized a.values a.block a.state ≡ true
  good_lengths = all-sized a.values a.block a.state ok.memory-sized.values_are ok.memory-sized.block_is ok.state_is

  -- a call that is refused leaves all, and the observer sees no event
  heard-refused : (l : Line) (m : List ℕ) (size number : ℕ) (room : List ℕ) → answer_by size (back number room) ≡ none → HeardSo boxed a l m size (called number a.values a.block a.state room)
  heard-refused l m size number room e = (
    ok,
    subst (λ (o : Option (List ℕ)). IsCall boxed (board_in boxed a) (board_in boxed a) (Option.map (λ bytes. (heard l m, bytes)) o)) (sym e) refl,
  )

  -- a message that is served
  heard-served : (l : Line) (m room : List ℕ) → HeardSo boxed a l m (size_of boxed l) (served (line_number l) (said boxed a ok l m) a.state room)
  unfolding served
  heard-served l m room = (
    after_lent boxed a ok l m,
    subst (λ (o : Option (List ℕ)). IsCall boxed (board_in boxed a) (board_in boxed (after boxed a ok l m)) (Option.map (λ bytes. (heard l m, bytes)) o))
        (sym (answer-read (size_of boxed l) (said boxed a ok l m).bytes room (said-size boxed a ok l m))) (message_follows boxed a ok l m),
  )

  -- gauge_message: refused by 3, 2 or 1, or served in eight bytes
  message-heard : (line : ℕ) (m room : List ℕ) → HeardSo boxed a (line_of line) m 8 (message_call line m a.values a.block a.state room)
  unfolding answer_by
  message-heard line m room = by_line (hears_eight line a.state) refl
    where
      Is : Called → Type 0
      Is x = HeardSo boxed a (line_of line) m 8 x

      refused : (number : ℕ) → answer_by 8 (back number room) ≡ none → Is (called number a.values a.block a.state room)
      refused number e = heard-refused (line_of line) m 8 number room e

      in_eight : hears_eight line a.state ≡ true → Is (served line (speak plain transfers eight_bytes (store_in a) (record_at a.state (record_place line)) m) a.state room)
      in_eight h =
          by_hearing (λ n l H size. HeardSo boxed a l m size (served n (speak plain transfers H (store_in a) (record_at a.state (record_place n)) m) a.state room)) boxed
          (λ l. heard-served l m room) line a.state ok.form_is h

      by_length : hears_eight line a.state ≡ true → 8 ≤ length room → (b : Bool) → eqb (length m) 8 ≡ b → Is (message_call line m a.values a.block a.state room)
      by_length h r true e = subst Is (is_served line m a.values a.block a.state room good_lengths h r (eqb-true (length m) 8 e)) (in_eight h)
      by_length h r false e = subst Is (no_message line m a.values a.block a.state room good_lengths h r (eqb-false (length m) 8 e)) (refused 1 refl)

      by_room : hears_eight line a.state ≡ true → (length room < 8) ⊎ (8 ≤ length room) → Is (message_call line m a.values a.block a.state room)
      by_room h (inl r) = subst Is (no_room line m a.values a.block a.state room good_lengths h r) (refused 2 refl)
      by_room h (inr r) = by_length h r (eqb (length m) 8) refl

      by_line : (b : Bool) → hears_eight line a.state ≡ b → Is (message_call line m a.values a.block a.state room)
      by_line true h = by_room h (lt_or_ge (length room) 8)
      by_line false h = subst Is (no_line line m a.values a.block a.state room good_lengths h) (refused 3 refl)

-- gauge_mailbox: refused by 3, 6, 7 or 2, or served in mailboxes
mailbox_heard : (boxed : Bool) (a : Arrays) → Fitting boxed a → (m room : List ℕ) → HeardSo boxed a tool m mailbox_size (mailbox_call m a.values a.block a.state room)
unfolding answer_by number_of
mailbox_heard false a ok m room =
    subst (HeardSo false a tool m mailbox_size) (not_chosen m a.values a.block a.state room (good_lengths false a ok) ok.form_is) (heard-refused false a ok tool m mailbox_size 3 room refl)
mailbox_heard true a ok m room = by_mail (mail_of m) refl
  where
    Is : Called → Type 0
    Is x = HeardSo true a tool m mailbox_size x

    refused : (number : ℕ) → answer_by mailbox_size (back number room) ≡ none → Is (called number a.values a.block a.state room)
    refused number e = heard-refused true a ok tool m mailbox_size number room e

    chosen : form_at a.state ≡ true
    chosen = ok.form_is

    good : sized a.values a.block a.state ≡ true
    good = good_lengths true a ok

    by_mail : (l : Result Head Unfit) → mail_of m ≡ l → Is (mailbox_call m a.values a.block a.state room)
    by_mail (Err Misshapen) e = subst Is (mail_unfit m a.values a.block a.state room Misshapen e ∙ is_chosen m a.values a.block a.state room good chosen) (refused 6 refl)
    by_mail (Err NotSdo) e = subst Is (mail_unfit m a.values a.block a.state room NotSdo e ∙ is_chosen m a.values a.block a.state room good chosen) (refused 7 refl)
    by_mail (Ok h) e = by_room (lt_or_ge (length room) mailbox_size)
      where
        by_room : (length room < mailbox_size) ⊎ (mailbox_size ≤ length room) → Is (mailbox_call m a.values a.block a.state room)
        by_room (inl r) = subst Is (mail_no_room m a.values a.block a.state room h e r ∙ is_chosen m a.values a.block a.state room good chosen) (refused 2 refl)
        by_room (inr r) = subst Is (mail_is_served m a.values a.block a.state room h e r ∙ is_chosen m a.values a.block a.state room good chosen) (heard-served true a ok tool m room)

module _ (boxed : Bool) (a : Arrays) (ok : Fitting boxed a) (s : Sample) where
  abbrev fed-store : Store
  fed-store = sampled (store_of a.values [] a.state) s

  sample_is : sample_call s.pressure s.valid s.faults s.seconds a.values a.state ≡ fed_by fed-store a.state
  unfolding sample_call
  sample_is = rw (eq-eqb (length a.values) 1024 ok.memory-sized.values_are, eq-eqb (length a.state) state_size ok.state_is)

  abbrev tripped : Trips
  tripped = trips_after a.values (trips_at a.state) s.pressure s.valid

  -- the arrays that the sample leaves
  abbrev sampled-arrays : Arrays
  sampled-arrays =
      arrays (values_after a.values (trips_at a.state) s.pressure s.valid s.faults s.seconds) a.block (splice a.state trips_place (trips_bytes tripped))

  fed_stands : Stands sampled-arrays.state (board_in boxed a).records tripped boxed
  fed_stands = trips-set (lent_stands boxed a ok) tripped

  sampled_lent : Fitting boxed sampled-arrays
  sampled_lent =
      record {
        memory-sized = sample-sized (store_in a).memory (trips_at a.state) s.pressure s.valid s.faults s.seconds ok.memory-sized;
        state_is = fed_stands.long;
        form_is = fed_stands.form;
      }

  -- LAW: a sample is the board's call
  sample_follows : record_call (setup boxed) transfers (board_in boxed a) (sensed s) ≡ (board_in boxed sampled-arrays, [])
  unfolding record_call sampled
  sample_follows =
      ap (λ (b : Board boxed). (b, []))
      (boards_same boxed (ap (λ (t : Trips). record { memory = (store_in sampled-arrays).memory; trips = t }) (sym fed_stands.trips)) (λ l. sym (fed_stands.records l)))

-- ---- every call

abbrev pub Fine : Bool → Arrays → Exported → Arrays × Back → Type 0
Fine boxed a c x = Fitting boxed x.0 × IsCall boxed (board_in boxed a) (board_in boxed x.0) (event_of boxed c x.1)

fine_fed : (boxed : Bool) (a : Arrays) (ok : Fitting boxed a) (s : Sample) → Fine boxed a (to_sample s) (by_sample a.block (fed_by (fed-store boxed a ok s) a.state))
unfolding fed_by sampled event_of
fine_fed boxed a ok s = (sampled_lent boxed a ok s, sample_follows boxed a ok s)

pub fine : (boxed : Bool) (a : Arrays) → Fitting boxed a → (c : Exported) → Fine boxed a c (exported a c)
unfolding exported event_of
fine boxed a ok (to_message line m room) = message-heard boxed a ok line m room
fine boxed a ok (to_mailbox m room) = mailbox_heard boxed a ok m room
fine boxed a ok (to_sample s) = subst (λ (x : Fed). Fine boxed a (to_sample s) (by_sample a.block x)) (sym (sample_is boxed a ok s)) (fine_fed boxed a ok s)
fine boxed a ok (to_image room) = (ok, refl)

-- THEOREM: a call that is not seen to end a write with yes, and is no sample, changes no value, no byte of the block and no trip state: a transfer that
-- is under way, refused or dropped
pub unfinished_leaves : (boxed : Bool) (a : Arrays) → Fitting boxed a → (c : Exported) → may_change boxed (event_of boxed c (exported a c).1) ≡ false → store_in (exported a c).0 ≡ store_in a
unfolding may_change record_call
unfinished_leaves boxed a ok c = go (event_of boxed c (exported a c).1) (fine boxed a ok c).1
  where
    b' : Board boxed
    b' = board_in boxed (exported a c).0

    go : (o : Option (Answered boxed)) → IsCall boxed (board_in boxed a) b' o → may_change boxed o ≡ false → b'.store ≡ store_in a
    go none e h = ap (λ (b : Board boxed). b.store) e
    go (some (heard l m, bytes)) e h =
        sym (ap (λ (x : Board boxed × List ℕ). x.0.store) e)
        ∙ unfinished plain transfers (speech_of boxed l) (store_in a) ((board_in boxed a).records l) m
        (all-clear boxed l m (store_in a) (view ((board_in boxed a).records l)) ((speech_of boxed l).ask m))
        (ap (λ (x : Board boxed × List ℕ). ends_write ((speech_of boxed l).ask m) ((speech_of boxed l).tell m x.1)) e ∙ h)
    go (some (sensed s, bytes)) e h = absurd (false≢true (sym h))

-- ---- every run

module _ (boxed : Bool) where
  abbrev firsts : List (Answered boxed) → List (Call (setup boxed))
  firsts es = map (λ (p : Answered boxed). p.0) es

  talk-with : (o : Option (Answered boxed)) (b b' : Board boxed) (es : List (Answered boxed)) → IsCall boxed b b' o → es ≡ record_talk (setup boxed) transfers b' (firsts es)
      → with_event boxed o es ≡ record_talk (setup boxed) transfers b (firsts (with_event boxed o es))
  unfolding with_event record_talk
  talk-with none b b' es h e = e ∙ ap (λ (x : Board boxed). record_talk (setup boxed) transfers x (firsts es)) h
  talk-with (some p) b b' es h e =
      ap (λ (l : List (Answered boxed)). p ∷ l) e ∙ ap (λ (x : Board boxed × List ℕ). (p.0, x.1) ∷ record_talk (setup boxed) transfers x.0 (firsts es)) (sym h)

  end_with : (o : Option (Answered boxed)) (b b' x : Board boxed) (es : List (Answered boxed)) → IsCall boxed b b' o → x ≡ record_end (setup boxed) transfers b' (firsts es)
      → x ≡ record_end (setup boxed) transfers b (firsts (with_event boxed o es))
  unfolding with_event record_end
  end_with none b b' x es h e = e ∙ ap (λ (y : Board boxed). record_end (setup boxed) transfers y (firsts es)) h
  end_with (some p) b b' x es h e = e ∙ ap (λ (y : Board boxed × List ℕ). record_end (setup boxed) transfers y.0 (firsts es)) (sym h)

  -- a run is a run of the board with its records: the same answers, the same end
  pub record SameRun (a : Arrays) (cs : List Exported) : Type 0 where
    pub same_answers : events boxed (history a cs) ≡ record_talk (setup boxed) transfers (board_in boxed a) (calls_in boxed (history a cs))
    pub same_board : board_in boxed (final a cs) ≡ record_end (setup boxed) transfers (board_in boxed a) (calls_in boxed (history a cs))
    pub lent_still : Fitting boxed (final a cs)

  pub same-run : (cs : List Exported) (a : Arrays) → Fitting boxed a → SameRun a cs
  unfolding history final events record_talk record_end
  same-run [] a ok = record { same_answers = refl; same_board = refl; lent_still = ok }
  same-run (c ∷ cs) a ok =
      let f : Fine boxed a c (exported a c) = fine boxed a ok c in
      let a' : Arrays = (exported a c).0 in
      let o : Option (Answered boxed) = event_of boxed c (exported a c).1 in
      let r : SameRun a' cs = same-run cs a' f.0 in
      record {
        same_answers = talk-with o (board_in boxed a) (board_in boxed a') (events boxed (history a' cs)) f.1 r.same_answers;
        same_board = end_with o (board_in boxed a) (board_in boxed a') (board_in boxed (final a' cs)) (events boxed (history a' cs)) f.1 r.same_board;
        lent_still = r.lent_still;
      }

-- ---- power-up

sized_lengths : (v b s : List ℕ) → sized v b s ≡ true → (length b ≡ 512) × (length s ≡ state_size)
unfolding sized
sized_lengths v b s e =
    let p = (and-eq-true_iff (eqb (length v) 1024) _).0 e in
    let q = (and-eq-true_iff (eqb (length b) 512) _).0 p.1 in
    (eqb-true _ _ q.0, eqb-true _ _ q.1)

module _ (form : ℕ) (v b s : List ℕ) where
  abbrev boxed : Bool
  boxed = boxed_by form

  -- the number 0 says that the arrays were long enough
  accepted : (power_up_call form v b s).number ≡ 0 → sized v b s ≡ true
  unfolding power_up_call
  accepted e = go (sized v b s) e
    where
      go : (d : Bool) → (cond d (powered 0 (fresh_values b) (with_form boxed (fresh_state s))) (powered 4 v s)).number ≡ 0 → d ≡ true
      go true q = refl
      go false q = absurd (omega arith)

  module _ (zero-given : (power_up_call form v b s).number ≡ 0) where
    pub powered_lengths : (length b ≡ 512) × (length s ≡ state_size)
    powered_lengths = sized_lengths v b s (accepted zero-given)

    powered_is : power_on form v b s ≡ arrays (fresh_values b) b (with_form boxed (fresh_state s))
    unfolding power_on power_up_call
    powered_is = rw (accepted zero-given)

    powered_stands : Stands (with_form boxed (fresh_state s)) (λ l. zero_record) all_off boxed
    powered_stands = form-set (fresh_set (as_read s powered_lengths.1)) boxed

    powered_lent : Fitting boxed (power_on form v b s)
    powered_lent = rw powered_is (record { memory-sized = fresh-sized b powered_lengths.0; state_is = powered_stands.long; form_is = powered_stands.form })

    powered_board : board_in boxed (power_on form v b s) ≡ record_start (setup boxed) transfers (powered_store b)
    powered_board =
        ap (board_in boxed) powered_is
        ∙ boards_same boxed (ap (λ (t : Trips). record { memory = memory_of (fresh_values b) b; trips = t }) powered_stands.trips) powered_stands.records

    -- every run from power-up is a run of the board with its records, from no transfer on any line
    pub record FromPowerUp (cs : List Exported) : Type 0 where
      pub answers : events boxed (history (power_on form v b s) cs) ≡ record_talk (setup boxed) transfers (record_start (setup boxed) transfers (powered_store b)) (calls_in boxed (history (power_on form v b s) cs))
      pub ends : board_in boxed (final (power_on form v b s) cs) ≡ record_end (setup boxed) transfers (record_start (setup boxed) transfers (powered_store b)) (calls_in boxed (history (power_on form v b s) cs))
      pub lent : Fitting boxed (final (power_on form v b s) cs)

    pub from_power_up : (cs : List Exported) → FromPowerUp cs
    from_power_up cs =
        let t : SameRun boxed (power_on form v b s) cs = same-run boxed cs (power_on form v b s) powered_lent in
        let ds : List (Call (setup boxed)) = calls_in boxed (history (power_on form v b s) cs) in
        record {
          answers = t.same_answers ∙ ap (λ (x : Board boxed). record_talk (setup boxed) transfers x ds) powered_board;
          ends = t.same_board ∙ ap (λ (x : Board boxed). record_end (setup boxed) transfers x ds) powered_board;
          lent = t.lent_still;
        }

    -- THEOREM: line 0 speaks in the form that power-up was given, whatever calls come (R14.3)
    pub form_lasts : (cs : List Exported) → form_at (final (power_on form v b s) cs).state ≡ boxed
    form_lasts cs = (from_power_up cs).lent.form_is

    -- THEOREM: DEMAND 3, for every list of calls of the C firmware from power-up
    pub demand3_calls : (cs : List Exported) → Demand3Calls form v b s cs
    unfolding observed
    demand3_calls cs =
        record {
          same_results = subst (λ (ps : List (Answered boxed)). results plain (powered_store b) (ops_of plain (seen ps)) ≡ got_of plain (seen ps)) (sym t.answers) d.same_results;
          same_end =
              subst (λ (ps : List (Answered boxed)). end_of plain (powered_store b) (ops_of plain (seen ps)) ≡ (record_end (setup boxed) transfers (record_start (setup boxed) transfers (powered_store b)) ds).store) (sym t.answers) d.same_end
              ∙ sym (ap (λ (x : Board boxed). x.store) t.ends);
        }
      where
        seen : List (Answered boxed) → List (Done plain)
        seen ps = client (setup boxed) ps

        t : FromPowerUp cs
        t = from_power_up cs

        ds : List (Call (setup boxed))
        ds = calls_in boxed (history (power_on form v b s) cs)

        d : Demand3Records (setup boxed) transfers (powered_store b) ds
        d = demand3_board boxed b powered_lengths.0 ds
