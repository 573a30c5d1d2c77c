-- RULE: THE C FIRMWARE'S RUN, from power-up (R15.1): a list of calls on three lent arrays, each exactly what the exported call is held
-- to (crate board, specs/Calls.antt). THE OBSERVER is given the calls and what they give back, and never the arrays. DEMAND 3 over both. Assumes nothing.
use Rattle.std.specs.Prelude.{ℕ, ◌+◌, ◌-◌, ◌/◌, ◌<◌, ◌≡◌, Bool, true, false, cond, List, [], ◌∷◌, map, eqb, length, take}
use Rattle.std.proofs.Math.Option
use Rattle.std.proofs.Math.Option.{Option, none, some}
use Rattle.order.specs.Talk.{open_read, value, gave}
use Rattle.order.specs.Gauge.{read, results, end_of}
use Rattle.order.specs.Serve.{Form, Setup}
use Rattle.order.specs.Observe.{Done, read_done, follow}
use Rattle.order.specs.Promise.{ends_write, ops_of, got_of, Right}
use Rattle.order.specs.Bytes.{Call, heard, sensed, meant, reads, client}
use Rattle.order.specs.Keep.{RecordBoard, NoReset, parts_asked_in}
use Rattle.trip.specs.Trip.{all_off}
use Rattle.gauge.specs.Memory.{Store, memory_of}
use Rattle.gauge.specs.PowerUp.{fresh_values}
use Rattle.gauge.specs.Whole.{read_whole}
use Rattle.sdo.specs.declared.Key.{Key}
use Rattle.mailbox.specs.Lines.{Line, tool, service, two_lines}
use Rattle.mailbox.specs.Mail.{mailbox_size}
use Rattle.transfer.specs.Records.{transfers}
use Rattle.state.specs.State.{record_place, record_at}
use Rattle.line.specs.Gauge.{Sample, bag552, plain, store_of}
use Rattle.board.specs.Calls.{Called, Fed, Shown, Powered, message_call, mailbox_call, boxed_by, power_up_call, sample_call, image_call}

-- the gauge, its two lines and how they speak: line 0 in mailboxes, or in eight bytes as line 1
abbrev pub setup : Bool → Setup
setup boxed = two_lines bag552 boxed

-- the bytes lent to every call: live values, saved block, state
pub record Arrays : Type 0 where
  pub values : List ℕ
  pub block : List ℕ
  pub state : List ℕ

abbrev pub arrays : List ℕ → List ℕ → List ℕ → Arrays
arrays values block state = record { values = values; block = block; state = state }

-- gauge_message with any line number, any bytes and any room for the answer; gauge_mailbox with any bytes and any room; gauge_sample; gauge_image with any room
pub data Exported : Type 0 where
  to_message : ℕ → List ℕ → List ℕ → Exported
  to_mailbox : List ℕ → List ℕ → Exported
  to_sample : Sample → Exported
  to_image : List ℕ → Exported

-- what a call gives back: its number, and the room that it was lent for the answer or the image
pub record Back : Type 0 where
  pub number : ℕ
  pub room : List ℕ

abbrev pub back : ℕ → List ℕ → Back
back number room = record { number = number; room = room }

-- ---- the board's side

abbrev pub by_message : Called → Arrays × Back
by_message c = (arrays c.values c.block c.state, back c.number c.answer)

abbrev pub by_sample : List ℕ → Fed → Arrays × Back
by_sample block c = (arrays c.values block c.state, back c.number [])

abbrev pub by_image : Arrays → Shown → Arrays × Back
by_image a c = (a, back c.number c.image)

-- ONE CALL
unfoldable pub exported : Arrays → Exported → Arrays × Back
exported a (to_message line m room) = by_message (message_call line m a.values a.block a.state room)
exported a (to_mailbox m room) = by_message (mailbox_call m a.values a.block a.state room)
exported a (to_sample s) = by_sample a.block (sample_call s.pressure s.valid s.faults s.seconds a.values a.state)
exported a (to_image room) = by_image a (image_call a.values room)

-- each call with what it gave back, and the arrays at the end
unfoldable pub history : Arrays → List Exported → List (Exported × Back)
history a [] = []
history a (c ∷ cs) = (c, (exported a c).1) ∷ history (exported a c).0 cs

unfoldable pub final : Arrays → List Exported → Arrays
final a [] = a
final a (c ∷ cs) = final (exported a c).0 cs

-- the arrays after a power-up call, which cannot write the block
abbrev pub by_power_up : List ℕ → Powered → Arrays
by_power_up block p = arrays p.values block p.state

unfoldable pub power_on : ℕ → List ℕ → List ℕ → List ℕ → Arrays
power_on form values block state = by_power_up block (power_up_call form values block state)

-- ---- the observer's side. He knows which form was chosen at power-up

-- R6.1
unfoldable pub line_of : ℕ → Line
line_of n = cond (eqb n 0) tool service

-- 0: the answer's bytes, so many (R13.7). 5: no answer (R13.8). Any other number is a refusal and no event
unfoldable pub answer_by : ℕ → Back → Option (List ℕ)
answer_by size b = cond (eqb b.number 0) (some (take size b.room)) (cond (eqb b.number 5) (some []) none)

module _ (boxed : Bool) where
  -- a call and its answer's bytes, as demand 3 has them. An image is no event
  abbrev pub Answered : Type 0
  Answered = Call (setup boxed) × List ℕ

  unfoldable pub event_of : Exported → Back → Option Answered
  event_of (to_message line m room) b = Option.map (λ bytes. (heard (line_of line) m, bytes)) (answer_by 8 b)
  event_of (to_mailbox m room) b = Option.map (λ bytes. (heard tool m, bytes)) (answer_by mailbox_size b)
  event_of (to_sample s) b = cond (eqb b.number 0) (some (sensed s, [])) none
  event_of (to_image room) b = none

  -- may the store be another after it? After a sample, and after a message that is seen to end a write with yes
  unfoldable pub may_change : Option Answered → Bool
  may_change none = false
  may_change (some (heard l m, bytes)) = ends_write (((setup boxed).speech l).ask m) (((setup boxed).speech l).tell m bytes)
  may_change (some (sensed s, bytes)) = true

  unfoldable pub with_event : Option Answered → List Answered → List Answered
  with_event none es = es
  with_event (some e) es = e ∷ es

  unfoldable pub events : List (Exported × Back) → List Answered
  events [] = []
  events (p ∷ ps) = with_event (event_of p.0 p.1) (events ps)

  -- the messages and samples among the calls
  abbrev pub calls_in : List (Exported × Back) → List (Call (setup boxed))
  calls_in ps = map (λ (p : Answered). p.0) (events ps)

  -- the finished operations, in their order, each with what it got
  unfoldable pub observed : List (Exported × Back) → List (Done plain)
  observed ps = client (setup boxed) (events ps)

-- ---- the plain gauge's side

-- power-up (R9.1, R9.3)
abbrev pub powered_store : List ℕ → Store
powered_store block = record { memory = memory_of (fresh_values block) block; trips = all_off }

-- values, saved block and trip states at the end of a run
abbrev pub store_in : Arrays → Store
store_in a = store_of a.values a.block a.state

-- the board that the arrays stand for, each line's record by the line's number (R6.1)
abbrev pub line_number : Line → ℕ
line_number tool = 0
line_number service = 1

abbrev pub board_in : (boxed : Bool) → Arrays → RecordBoard (setup boxed) transfers
board_in boxed a = record { store = store_in a; records = λ l. record_at a.state (record_place (line_number l)) }

-- ---- DEMAND 3, of the calls that C firmware makes (R15.7), whatever form power-up is given

module _ (form : ℕ) (values block state : List ℕ) (cs : List Exported) where
  -- the run, and what the observer makes of it
  abbrev pub run_of : List (Done plain)
  run_of = observed (boxed_by form) (history (power_on form values block state) cs)

  pub record Demand3Calls : Type 0 where
    pub same_results : results plain (powered_store block) (ops_of plain run_of) ≡ got_of plain run_of
    pub same_end : end_of plain (powered_store block) (ops_of plain run_of) ≡ store_in (final (power_on form values block state) cs)

-- ---- THE COUNT OF PARTS, of the same calls

-- how many parts a read of n bytes takes in a form: none where the opening carries all; else what it left over, by the size of a part, rounded up (R6.6, R18.10)
unfoldable pub parts_needed : Form → ℕ → ℕ
parts_needed F n = cond (F.closes n) 0 ((n - F.carried n + (F.size - 1)) / F.size)

module _ (boxed : Bool) where
  -- how many messages the line's client sends among these calls
  abbrev pub parts_asked : Line → List (Exported × Back) → ℕ
  parts_asked l ps = parts_asked_in (setup boxed) l (calls_in boxed ps)

  -- a call c that is a message m of line l, so answered, opens a read of an entry that holds these bytes; these calls come after it: the line's own messages among them
  -- ask for parts with right toggles, and no device reset is done (R6.6)
  pub record ReadOpened (a : Arrays) (c : Exported) (l : Line) (m answer bytes : List ℕ) (cs : List Exported) : Type 0 where
    pub heard_so : event_of boxed c (exported a c).1 ≡ some (heard l m, answer)
    pub key : Key
    pub opens : ((setup boxed).speech l).ask m ≡ open_read key
    pub holds : read_whole (store_in a) key.index key.sub ≡ value bytes
    pub right : Right (setup boxed) l (map (meant (setup boxed)) (calls_in boxed (history (exported a c).0 cs))) false
    pub calm : NoReset (setup boxed) transfers (board_in boxed (exported a c).0) (calls_in boxed (history (exported a c).0 cs))

  -- what the client has of the read that this answer opened, after these calls: the value, if it is finished
  abbrev pub read_seen : Line → Key → List ℕ → List ℕ → List (Exported × Back) → Option (Done plain)
  read_seen l key m answer ps = read_done plain key (((setup boxed).speech l).tell m answer) (follow (setup boxed) l (map (reads (setup boxed)) (events boxed ps)))

  -- the read is finished by exactly so many parts
  pub record ExactParts (a : Arrays) (c : Exported) (l : Line) (m answer bytes : List ℕ) (cs : List Exported) (key : Key) : Type 0 where
    pub at_last : parts_asked l (history (exported a c).0 cs) ≡ parts_needed ((setup boxed).speech l).form (length bytes)
        → read_seen l key m answer (history (exported a c).0 cs) ≡ some (read key, gave bytes)
    pub not_before : parts_asked l (history (exported a c).0 cs) < parts_needed ((setup boxed).speech l).form (length bytes)
        → read_seen l key m answer (history (exported a c).0 cs) ≡ none
