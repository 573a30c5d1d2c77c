-- RULE: EIGHT BYTES IN, EIGHT BYTES OUT: `ask_of` is what a message asks, `answer_of` the bytes of an answer, and `tell_of` what a client
-- reads in them. Bits and bytes of a message that no rule names are not looked at (R5.11).
use Rattle.std.specs.Prelude.{ℕ, zero, suc, ◌+◌, ◌-◌, ◌*◌, ◌/◌, ◌%◌, ◌≤◌, ◌<◌, ◌≡◌, Bool, true, false, cond, ◌&&◌, List, [], ◌∷◌, ◌++◌, T, eqb, leb, length, take, drop, get_or, replicate, Option, Some, None}
use Rattle.std.proofs.Common.{arith, le_refl}
use Rattle.std.proofs.Math.Option.{none, some}
use Rattle.wire.specs.Little.{little, number}
use Rattle.wire.specs.Flags.{bit}
use Rattle.order.specs.Talk.{announced, own, Request, open_read, next_part, expedited, open_write, send_part, give_up, unknown, Answer, opened, part_given, write_opened, part_taken, refused, dropped, no_transfer, silent}
use Rattle.order.specs.Serve.{Form, Speech, toggle_code}
use Rattle.sdo.specs.declared.Key.{Key}
use Rattle.sdo.specs.declared.Opening.{Opening}
use Rattle.sdo.specs.declared.Opening.TheVariants.{Value, Own, Announced, Unsaid}
use Rattle.sdo.specs.declared.Message.{Message}
use Rattle.sdo.specs.declared.Message.TheVariants.{SendPart, OpenWrite, OpenRead, NextPart, Unknown}

-- R5.1
abbrev pub key_of : List ℕ → Key
key_of m = record { index = get_or m 1 0 + 256 * get_or m 2 0; sub = get_or m 3 0 }

abbrev pub key_bytes : Key → List ℕ
key_bytes k = k.index % 256 ∷ k.index / 256 ∷ k.sub ∷ []

-- a bit of a byte, by its weight
abbrev pub has : ℕ → ℕ → Bool
has weight b = eqb (b / weight % 2) 1

-- by the specifier (R5.1): 0 to 4, and 5 to 7 as a range
unfoldable pub choice : {A : Type 0} → ℕ → A → A → A → A → A → A → A
choice zero a₀ a₁ a₂ a₃ a₄ above = a₀
choice (suc zero) a₀ a₁ a₂ a₃ a₄ above = a₁
choice (suc (suc zero)) a₀ a₁ a₂ a₃ a₄ above = a₂
choice (suc (suc (suc zero))) a₀ a₁ a₂ a₃ a₄ above = a₃
choice (suc (suc (suc (suc zero)))) a₀ a₁ a₂ a₃ a₄ above = a₄
choice (suc (suc (suc (suc (suc n))))) a₀ a₁ a₂ a₃ a₄ above = above

-- the opening of a write, by bits 1 and 0 (R5.5, R5.6)
unfoldable pub opening_by : Bool → Bool → List ℕ → Opening
opening_by true true m = Value (4 - get_or m 0 0 / 4 % 4)
opening_by true false m = Own
opening_by false true m = Announced (number m 4 4)
opening_by false false m = Unsaid

abbrev pub opening_of : List ℕ → Opening
opening_of m = opening_by (has 2 (get_or m 0 0)) (has 1 (get_or m 0 0)) m

-- what a message says, none for the client's abort; a part is laid out as an answer's (R5.4, R5.8)
unfoldable pub heard_of : List ℕ → Option Message
unfolding choice opening_by
heard_of m =
    choice (get_or m 0 0 / 32)
    (Some (SendPart (has 16 (get_or m 0 0)) (7 - get_or m 0 0 / 2 % 8) (has 1 (get_or m 0 0))))
    (Some (OpenWrite (key_of m) (opening_of m)))
    (Some (OpenRead (key_of m)))
    (Some (NextPart (has 16 (get_or m 0 0))))
    None
    (Some Unknown)

-- the same with the bytes of a write, which stand in the message
unfoldable pub request_of : Message → List ℕ → Request Key
request_of (SendPart t n last) m = send_part t (take n (drop 1 m)) last
request_of (OpenWrite k (Value n)) m = expedited k (announced n) (take n (drop 4 m))
request_of (OpenWrite k Own) m = expedited k own (take 4 (drop 4 m))
request_of (OpenWrite k (Announced n)) m = open_write k (some n) []
request_of (OpenWrite k Unsaid) m = open_write k none []
request_of (OpenRead k) m = open_read k
request_of (NextPart t) m = next_part t
request_of Unknown m = unknown

unfoldable pub request_heard : Option Message → List ℕ → Request Key
unfolding request_of
request_heard None m = give_up
request_heard (Some a) m = request_of a m

unfoldable pub ask_of : List ℕ → Request Key
unfolding request_heard heard_of
ask_of m = request_heard (heard_of m) m

-- R7.2
abbrev pub transfer_code : ℕ
transfer_code = 0x05040001

-- the bytes of an answer (R5.2 to R5.4, R5.7, R5.8), of an abort (R5.10)
unfoldable pub answer_of : Answer Key → List ℕ
unfolding little
answer_of (opened k n bytes true) = (0x43 + 4 * (4 - length bytes)) ∷ key_bytes k ++ bytes ++ replicate (4 - length bytes) 0
answer_of (opened k n bytes false) = 0x41 ∷ key_bytes k ++ little 4 n
answer_of (part_given t bytes last) = (16 * bit t + 2 * (7 - length bytes) + bit last) ∷ bytes ++ replicate (7 - length bytes) 0
answer_of (write_opened k) = 0x60 ∷ key_bytes k ++ replicate 4 0
answer_of (part_taken t) = (0x20 + 16 * bit t) ∷ replicate 7 0
answer_of (refused k c) = 0x80 ∷ key_bytes k ++ little 4 c
answer_of (dropped k c) = 0x80 ∷ key_bytes k ++ little 4 c
answer_of no_transfer = 0x80 ∷ replicate 3 0 ++ little 4 transfer_code
answer_of silent = []

-- THE CLIENT'S READING. A code tells which abort it is: beside 05040001, which has no entry, these only drop a transfer (R15.5)
abbrev pub only_drops : ℕ → Bool
only_drops c = eqb c toggle_code

unfoldable pub abort_of : Key → ℕ → Answer Key
abort_of k c = cond (eqb c transfer_code) no_transfer (cond (only_drops c) (dropped k c) (refused k c))

unfoldable pub tell_of : List ℕ → Answer Key
unfolding choice abort_of
tell_of [] = silent
tell_of (b ∷ rest) =
    let a : List ℕ = b ∷ rest in
    choice (b / 32)
    (part_given (has 16 b) (take (7 - b / 2 % 8) rest) (has 1 b))
    (part_taken (has 16 b))
    (cond (has 2 b) (opened (key_of a) (4 - b / 4 % 4) (take (4 - b / 4 % 4) (drop 4 a)) true) (opened (key_of a) (number a 4 4) [] false))
    (write_opened (key_of a))
    (abort_of (key_of a) (number a 4 4))
    silent

-- a code that four bytes hold: one that ends an operation, and one that only drops a transfer
pub record Code (c : ℕ) : Type 0 where
  pub fits : c < 0x1_0000_0000
  pub not_transfer : eqb c transfer_code ≡ false
  pub ends : only_drops c ≡ false

pub record DropCode (c : ℕ) : Type 0 where
  pub fits : c < 0x1_0000_0000
  pub not_transfer : eqb c transfer_code ≡ false
  pub drops : only_drops c ≡ true

-- the answers that eight bytes carry
abbrev pub Carried : Answer Key → Type 0
Carried (opened k n bytes true) = (n ≡ length bytes) × (1 ≤ length bytes) × (length bytes ≤ 4)
Carried (opened k n bytes false) = (bytes ≡ []) × (n < 0x1_0000_0000)
Carried (part_given t bytes last) = length bytes ≤ 7
Carried (write_opened k) = Unit {0}
Carried (part_taken t) = Unit {0}
Carried (refused k c) = Code c
Carried (dropped k c) = DropCode c
Carried no_transfer = Unit {0}
Carried silent = Unit {0}

-- ---- THE FORM: up to four bytes at once, longer ones in parts of seven (R5.2 to R5.4)

abbrev pub short : ℕ → Bool
short n = leb 1 n && leb n 4

abbrev pub short_carried : ℕ → ℕ
short_carried n = cond (short n) n 0

pub short_in : (n : ℕ) → short_carried n ≤ n
short_in n = go (short n)
  where
    go : (d : Bool) → cond d n 0 ≤ n
    go true = le_refl n
    go false = omega arith

pub short_all : (n : ℕ) → T (short n) → n ≤ short_carried n
short_all n = go (short n)
  where
    go : (d : Bool) → T d → n ≤ cond d n 0
    go true t = le_refl n
    go false t = absurd t

unfoldable pub eight : Form
eight = record { carried = short_carried; closes = short; size = 7; carried_in = short_in; closes_all = short_all }

-- a line that speaks in eight bytes
abbrev pub eight_bytes : Speech Key Key
eight_bytes = record { form = eight; ask = ask_of; answer = λ m t. answer_of t; tell = λ m a. tell_of a }
