-- RULE: WHAT MEETS THE PROMISES: a board's message call is any function of what it is lent; each promise is one equation. Assumes nothing.
use Rattle.std.specs.Prelude.{ℕ, ◌≡◌, List, Float}
use Rattle.board.specs.Calls.{Called, Powered, Fed, Shown, message_call, mailbox_call, power_up_call, sample_call, image_call}

-- what the message call is lent
pub record Given : Type 0 where
  pub line : ℕ
  pub message : List ℕ
  pub values : List ℕ
  pub block : List ℕ
  pub state : List ℕ
  pub room : List ℕ

-- the promises of the five calls, as the exported functions' contracts say them
abbrev pub MessagePromised : Given → Called → Type 0
MessagePromised i o = o ≡ message_call i.line i.message i.values i.block i.state i.room

abbrev pub MailboxPromised : List ℕ → List ℕ → List ℕ → List ℕ → List ℕ → Called → Type 0
MailboxPromised mailbox values block state room o = o ≡ mailbox_call mailbox values block state room

abbrev pub PowerUpPromised : ℕ → List ℕ → List ℕ → List ℕ → Powered → Type 0
PowerUpPromised form values block state o = o ≡ power_up_call form values block state

abbrev pub SamplePromised : Float → ℕ → ℕ → ℕ → List ℕ → List ℕ → Fed → Type 0
SamplePromised pressure valid faults seconds values state o = o ≡ sample_call pressure valid faults seconds values state

abbrev pub ImagePromised : List ℕ → List ℕ → Shown → Type 0
ImagePromised values room o = o ≡ image_call values room

-- a board meets the promise if it does on all inputs
abbrev pub Meets : (Given → Called) → Type 0
Meets board = (i : Given) → MessagePromised i (board i)
