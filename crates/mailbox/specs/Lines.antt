-- RULE: TWO LINES over a gauge that is given by its entries: the tool's speaks in eight bytes or in mailboxes, service's in eight bytes. Assumes nothing.
use Rattle.std.specs.Prelude.{ℕ, Bool, true, false}
use Rattle.order.specs.Talk.{idle}
use Rattle.order.specs.Serve.{Speech, Setup, by_line}
use Rattle.sdo.specs.declared.Key.{Key}
use Rattle.sdo.specs.Eight.{eight_bytes}
use Rattle.sdo.specs.Entries.{Entries, gauge}
use Rattle.mailbox.specs.Mail.{mailbox_size, mailboxes}

-- R6.1
pub data Line : Type 0 where
  tool : Line
  service : Line
  deriving Discrete as Line-same

-- how a line speaks; true: the mailbox is chosen (R18.11)
abbrev pub speech_of : Bool → Line → Speech Key Key
speech_of true tool = mailboxes
speech_of false tool = eight_bytes
speech_of boxed service = eight_bytes

-- the bytes of an answer, if there is one (R5.1, R18.8)
abbrev pub size_of : Bool → Line → ℕ
size_of true tool = mailbox_size
size_of false tool = 8
size_of boxed service = 8

abbrev pub two_lines : Entries → Bool → Setup
two_lines E boxed = record { gauge = gauge E; wires = by_line Line-same idle; speech = speech_of boxed }
