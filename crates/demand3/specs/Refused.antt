-- RULE: THE BOARDS THAT MUST BE REFUSED, each by what it does where it answers with number 0: what it does with any other call is left open.
-- Assumes nothing.
use Rattle.std.specs.Prelude.{ℕ, ◌/◌, ◌≡◌, List, take, drop, get_or}
use Rattle.board.specs.Calls.{Called}
use Rattle.demand3.specs.Promised.{Given}

abbrev pub eight_of : Called → List ℕ
eight_of o = take 8 o.answer

-- it aborts every request
abbrev pub Aborts : (Given → Called) → Type 0
Aborts board = (i : Given) → (board i).number ≡ 0 → get_or (eight_of (board i)) 0 0 ≡ 0x80

-- it sends the same eight bytes always
abbrev pub Sends : List ℕ → (Given → Called) → Type 0
Sends same board = (i : Given) → (board i).number ≡ 0 → eight_of (board i) ≡ same

-- it stores nothing
abbrev pub Forgets : (Given → Called) → Type 0
Forgets board = (i : Given) → (board i).number ≡ 0 → (board i).values ≡ i.values

-- all that a call is lent but the 64 bytes that line 0's transfer holds
abbrev pub unheld : Given → Given
unheld i = record { line = i.line; message = i.message; values = i.values; block = i.block; state = drop 64 i.state; room = i.room }

-- it serves the opening and fakes the parts: on line 0 they are made from anything but the bytes held
abbrev pub Fakes : (Given → List ℕ) → (Given → Called) → Type 0
Fakes fake board = (i : Given) → (board i).number ≡ 0 → i.line ≡ 0 → get_or i.message 0 0 / 32 ≡ 3 → eight_of (board i) ≡ fake (unheld i)
