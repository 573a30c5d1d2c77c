-- RULE: THE PROMISES OF THE BOARD'S CALLS (R13.1): each returned number, every byte of what was lent, on all inputs. Assumes nothing.
use Rattle.std.specs.Prelude.{Bool, cond, not, ◌&&◌, ◌||◌, List, [], ◌∷◌, ℕ, eqb, leb, Float, length, Result, Ok, Err}
use Rattle.wire.specs.Splice.{splice}
use Rattle.sample.specs.Image.{image_of}
use Rattle.gauge.specs.Memory.{Store}
use Rattle.gauge.specs.PowerUp.{fresh_values}
use Rattle.order.specs.Keep.{Spoken, speak}
use Rattle.sdo.specs.Eight.{eight_bytes}
use Rattle.mailbox.specs.declared.Head.{Head}
use Rattle.mailbox.specs.declared.Unfit.{Unfit}
use Rattle.mailbox.specs.declared.Unfit.TheVariants.{Misshapen, NotSdo}
use Rattle.board.specs.declared.Done.{Done}
use Rattle.board.specs.declared.Done.TheVariants.{Plainly, Aborting}
use Rattle.board.specs.declared.Refused.{Refused}
use Rattle.board.specs.declared.Refused.TheVariants.{BadMessage, ShortRoom, BadLine, BadMemory, BadMailbox, NotSdo as NoSdo}
use Rattle.mailbox.specs.Mail.{mailbox_size, mail_of, mailboxes}
use Rattle.transfer.specs.Records.{transfers}
use Rattle.state.specs.State.{state_size, record_place, record_at, trips_place, trips_bytes, form_place, form_at, form_bytes, fresh_state, settled}
use Rattle.line.specs.Gauge.{sampled, plain, store_of}

-- the lengths of what is lent (R13.2)
unfoldable pub sized : List ℕ → List ℕ → List ℕ → Bool
sized values block state = eqb (length values) 1024 && (eqb (length block) 512 && eqb (length state) state_size)

-- ---- the numbers that calls give back, by the code's enums (R13.2 to R13.10)

unfoldable pub number_of : Result Done Refused → ℕ
number_of (Ok Plainly) = 0
number_of (Ok Aborting) = 5
number_of (Err BadMessage) = 1
number_of (Err ShortRoom) = 2
number_of (Err BadLine) = 3
number_of (Err BadMemory) = 4
number_of (Err BadMailbox) = 6
number_of (Err NoSdo) = 7

abbrev pub refused_for : Unfit → Refused
refused_for Misshapen = BadMailbox
refused_for NotSdo = NoSdo

-- ---- gauge_message

pub record Called : Type 0 where
  pub number : ℕ
  pub values : List ℕ
  pub block : List ℕ
  pub state : List ℕ
  pub answer : List ℕ

abbrev pub called : ℕ → List ℕ → List ℕ → List ℕ → List ℕ → Called
called number values block state answer = record { number = number; values = values; block = block; state = state; answer = answer }

-- no answer is the client's abort (R13.7, R13.8)
unfoldable pub number_by : List ℕ → ℕ
number_by [] = 5
number_by (b ∷ bytes) = 0

abbrev pub state_after : ℕ → Spoken plain transfers → List ℕ → List ℕ
state_after line s state = settled (record_place line) s.next s.reset state

-- the message is served: the answer's bytes are written, if any, and no other of the room (R13.7, R13.8)
unfoldable pub served : ℕ → Spoken plain transfers → List ℕ → List ℕ → Called
served line s state answer =
    called (number_by s.bytes) s.store.memory.values s.store.memory.block (state_after line s state) (splice answer 0 s.bytes)

-- line 1, and line 0 where the mailbox is not chosen (R13.3)
unfoldable pub hears_eight : ℕ → List ℕ → Bool
hears_eight line state = eqb line 1 || (eqb line 0 && not (form_at state))

-- the numbers in their order (R13.2 to R13.6)
unfoldable pub message_call : ℕ → List ℕ → List ℕ → List ℕ → List ℕ → List ℕ → Called
message_call line m values block state answer =
    cond (sized values block state)
    (cond (hears_eight line state)
    (cond (leb 8 (length answer))
    (cond (eqb (length m) 8)
    (served line (speak plain transfers eight_bytes (store_of values block state) (record_at state (record_place line)) m) state answer)
    (called 1 values block state answer))
    (called 2 values block state answer))
    (called 3 values block state answer))
    (called 4 values block state answer)

-- ---- gauge_mailbox, which is line 0

-- 6 and 7 (R13.9, R13.10), or what follows
unfoldable pub by_mail : Result Head Unfit → (ℕ → Called) → Called → Called
by_mail (Err Misshapen) refuse follows = refuse 6
by_mail (Err NotSdo) refuse follows = refuse 7
by_mail (Ok head) refuse follows = follows

-- then 2 (R13.4)
unfoldable pub mail_call : List ℕ → List ℕ → List ℕ → List ℕ → List ℕ → Called
unfolding by_mail
mail_call m values block state answer =
    by_mail (mail_of m) (λ number. called number values block state answer)
    (cond (leb mailbox_size (length answer))
    (served 0 (speak plain transfers mailboxes (store_of values block state) (record_at state (record_place 0)) m) state answer)
    (called 2 values block state answer))

-- the numbers in their order (R13.6)
unfoldable pub mailbox_call : List ℕ → List ℕ → List ℕ → List ℕ → List ℕ → Called
unfolding mail_call
mailbox_call m values block state answer =
    cond (sized values block state)
    (cond (form_at state)
    (mail_call m values block state answer)
    (called 3 values block state answer))
    (called 4 values block state answer)

-- ---- gauge_power_up

-- the block is only looked at
pub record Powered : Type 0 where
  pub number : ℕ
  pub values : List ℕ
  pub state : List ℕ

abbrev pub powered : ℕ → List ℕ → List ℕ → Powered
powered number values state = record { number = number; values = values; state = state }

-- form 0 is eight bytes on line 0, any other the mailbox (R18.11)
abbrev pub boxed_by : ℕ → Bool
boxed_by form = not (eqb form 0)

-- the state with a form of line 0
unfoldable pub with_form : Bool → List ℕ → List ℕ
with_form boxed state = splice state form_place (form_bytes boxed)

-- values from the block, records and trips as at power-up, the form of line 0 (R9.1 to R9.4)
unfoldable pub power_up_call : ℕ → List ℕ → List ℕ → List ℕ → Powered
unfolding with_form
power_up_call form values block state =
    cond (sized values block state) (powered 0 (fresh_values block) (with_form (boxed_by form) (fresh_state state))) (powered 4 values state)

-- ---- gauge_sample

pub record Fed : Type 0 where
  pub number : ℕ
  pub values : List ℕ
  pub state : List ℕ

abbrev pub fed : ℕ → List ℕ → List ℕ → Fed
fed number values state = record { number = number; values = values; state = state }

unfoldable pub fed_by : Store → List ℕ → Fed
fed_by g state = fed 0 g.memory.values (splice state trips_place (trips_bytes g.trips))

unfoldable pub sample_call : Float → ℕ → ℕ → ℕ → List ℕ → List ℕ → Fed
sample_call pressure valid faults seconds values state =
    cond (eqb (length values) 1024 && eqb (length state) state_size)
    (fed_by (sampled (store_of values [] state) (record { pressure = pressure; valid = valid; faults = faults; seconds = seconds })) state)
    (fed 4 values state)

-- ---- gauge_image

pub record Shown : Type 0 where
  pub number : ℕ
  pub image : List ℕ

abbrev pub shown : ℕ → List ℕ → Shown
shown number image = record { number = number; image = image }

-- the room must have ten bytes (R13.4)
unfoldable pub image_call : List ℕ → List ℕ → Shown
image_call values image =
    cond (eqb (length values) 1024) (cond (leb 10 (length image)) (shown 0 (splice image 0 (image_of values))) (shown 2 image)) (shown 4 image)
