-- RULE: ONE TEXT LINE'S TURN (R17.1): what is printed, and what the board's memory is then.
use Rattle.std.specs.Prelude.{cond, List, ℕ, ◌<◌, eqb, replicate, Option, Some, None}
use Rattle.board.specs.Calls.{Called, message_call}
use Rattle.dialogue.specs.declared.Spoken.{Spoken}
use Rattle.talk.specs.declared.serve.Memory.{Memory}
use Rattle.dialogue.specs.Text.{answer_text, none_text, unknown_text}

abbrev pub memory : List ℕ → List ℕ → List ℕ → Memory
memory values block state = record { values = values; block = block; state = state }

pub record Turn : Type 0 where
  pub text : List ℕ
  pub left : Memory

abbrev pub turn : List ℕ → Memory → Turn
turn text left = record { text = text; left = left }

-- the line and the answer are printed; the call's number 5 is no answer (R13.8)
unfoldable pub answered_turn : ℕ → Called → Turn
answered_turn line c =
    turn (cond (eqb c.number 5) (none_text line) (answer_text line c.answer))
    (memory c.values c.block c.state)

-- a message is served by the board; any other text line prints a question mark, and nothing happens (R17.2)
unfoldable pub taken : Option Spoken → Memory → Turn
taken (Some s) m = answered_turn s.line (message_call s.line s.eight m.values m.block m.state (replicate 8 0))
taken None m = turn unknown_text m

-- a message is on line 0 or 1
abbrev pub OnLines : Option Spoken → Type 0
OnLines (Some s) = s.line < 2
OnLines None = Unit {0}
