-- THE ROUND TRIP: eight bytes on a line that are printed and typed again are the same eight bytes on the same line. Assumes nothing.
use mathlib.Core.Bool.{Bool, true, false}
use mathlib.Core.List.{List, [], ◌∷◌, ◌++◌, map, append-nil, append_assoc}
use mathlib.Core.Path.{◌≡◌, refl, sym, ap, ◌∙◌}
use Prim.Native.Nat.{ℕ, zero, suc, ◌+◌, ◌-◌, ◌*◌, ◌/◌, ◌%◌, ◌≤◌, ◌<◌}
use native.Mathlib.Omega.{arith}
use lib.Dec.{ltb}
use lib.ListN.{length, get_or}
use borrow.Author.Tests.{ltb-true, ltb-false, lt-ltb, le-ltb, le-leb, lt-leb, ne_eqb}
use Rattle.std.specs.Prelude.{Option}
use Rattle.wire.proofs.LittleLaws.{Bytes}
use Rattle.dialogue.specs.declared.Spoken.{Spoken}
use Rattle.dialogue.specs.Text.{between, is_digit, digit_value, all_digits, pairs, is_message, a_message, read, spoken, capital, hex_text, message_text, answer_text}
use Rattle.dialogue.specs.Lines.{lines_from, nothing_yet, lines_heard}
use Rattle.dialogue.proofs.Hearing.{heard}
use Rattle.dialogue.proofs.TextLaws.{length_hex, return_absent}

-- a printed digit is a digit, of the same worth
pub record Digit (n : ℕ) : Type 0 where
  pub is : is_digit (capital n) ≡ true
  pub worth : digit_value (capital n) ≡ n
  pub high : 48 ≤ capital n

inside : (low b high : ℕ) → low ≤ b → b ≤ high → between low b high ≡ true
unfolding between
inside low b high h k = rw (le-leb low b h, le-leb b high k)

above : (low b high : ℕ) → low ≤ b → high < b → between low b high ≡ false
unfolding between
above low b high h k = rw (le-leb low b h, lt-leb b high k)

figure : (n : ℕ) → n < 10 → Digit n
unfolding is_digit digit_value capital
figure n h =
    let e = inside 48 (48 + n) 57 (omega arith) (omega arith) in
    record { is = rw (lt-ltb n 10 h, e); worth = rw (lt-ltb n 10 h, e) (omega arith); high = rw (lt-ltb n 10 h) (omega arith) }

letter : (n : ℕ) → 10 ≤ n → n < 16 → Digit n
unfolding is_digit digit_value capital
letter n h k =
    let e = above 48 (55 + n) 57 (omega arith) (omega arith) in
    let f = inside 65 (55 + n) 70 (omega arith) (omega arith) in
    record { is = rw (le-ltb n 10 h, e, f); worth = rw (le-ltb n 10 h, e, f) (omega arith); high = rw (le-ltb n 10 h) (omega arith) }

pub digit : (n : ℕ) → n < 16 → Digit n
digit n h = go (ltb n 10) refl
  where
    go : (t : Bool) → ltb n 10 ≡ t → Digit n
    go true e = figure n (ltb-true _ _ e)
    go false e = letter n (ltb-false _ _ e) h

pub pairs-back : (l : List ℕ) → Bytes l → pairs (hex_text l) ≡ l
unfolding pairs hex_text
pairs-back [] k = refl
pairs-back (b ∷ bs) k =
    let high = digit (b / 16) (omega (arith, k 0)) in
    let low = digit (b % 16) (omega arith) in
    let e : 16 * (b / 16) + b % 16 ≡ b = omega arith in
    rw (high.worth, low.worth, e, pairs-back bs (λ j. k (suc j)))

pub digits_back : (l : List ℕ) → Bytes l → all_digits (hex_text l) ≡ true
unfolding all_digits hex_text
digits_back [] k = refl
digits_back (b ∷ bs) k = rw ((digit (b / 16) (omega (arith, k 0))).is, (digit (b % 16) (omega arith)).is) (digits_back bs (λ j. k (suc j)))

-- nothing printed of a byte is a carriage return
hex_high : (l : List ℕ) (i : ℕ) → Bytes l → i < length (hex_text l) → 48 ≤ get_or (hex_text l) i 0
unfolding hex_text
hex_high [] i k h = omega arith
hex_high (b ∷ bs) zero k h = (digit (b / 16) (omega (arith, k 0))).high
hex_high (b ∷ bs) (suc zero) k h = (digit (b % 16) (omega arith)).high
hex_high (b ∷ bs) (suc (suc i)) k h = hex_high bs i (λ j. k (suc j)) (omega arith)

-- text with no newline in it, and a newline, is one line
unbroken : (t begun : List ℕ) → ((i : ℕ) → i < length t → 10 < get_or t i 0) → lines_from begun (t ++ (10 ∷ [])) ≡ (begun ++ t) ∷ []
unfolding lines_from
unbroken [] begun h = ap (λ (l : List ℕ). l ∷ []) (sym (append-nil begun))
unbroken (x ∷ xs) begun h =
    rw (ne_eqb x 10 (λ e. omega (arith, h 0 (omega arith))))
    (unbroken xs (begun ++ (x ∷ [])) (λ i k. h (suc i) (omega arith)) ∙ ap (λ (l : List ℕ). l ∷ []) (append_assoc begun (x ∷ []) xs))

module _ (n : ℕ) (bytes : List ℕ) (h : n < 2) (e : length bytes ≡ 8) (k : Bytes bytes) where
  message-length : length (message_text n bytes) ≡ 18
  unfolding message_text
  message-length = omega (arith, length_hex bytes)

  message-read : read (message_text n bytes) ≡ a_message n bytes
  unfolding read is_message message_text
  message-read =
      let long : length (hex_text bytes) ≡ 16 = omega (arith, length_hex bytes) in
      let line : 48 + n - 48 ≡ n = omega arith in
      rw (long, inside 48 (48 + n) 49 (omega arith) (omega arith), digits_back bytes k, line, pairs-back bytes k)

  no_return : get_or (message_text n bytes) (length (message_text n bytes) - 1) 0 ≡ 13 → ⊥
  unfolding message_text
  no_return p =
      let last : length (hex_text bytes) + 2 - 1 ≡ 17 = omega (arith, length_hex bytes) in
      let q : 48 ≤ get_or (hex_text bytes) 15 0 = hex_high bytes 15 k (omega (arith, length_hex bytes)) in
      omega (arith, rw message-length at p)

  -- what is printed says what it was made of
  pub printed_spoken : spoken (message_text n bytes) ≡ a_message n bytes
  unfolding spoken
  printed_spoken = rw (return_absent (message_text n bytes) no_return) message-read

  message-high : (i : ℕ) → i < length (message_text n bytes) → 10 < get_or (message_text n bytes) i 0
  unfolding message_text
  message-high zero i<18 = omega arith
  message-high (suc zero) i<18 = omega arith
  message-high (suc (suc i)) i<18 = omega (arith, hex_high bytes i k (omega arith))

  -- and a line that is printed, given back as input, is that message and nothing else
  pub printed_heard : lines_heard nothing_yet (answer_text n bytes) ≡ a_message n bytes ∷ []
  unfolding answer_text
  printed_heard = heard (message_text n bytes ++ (10 ∷ [])) ∙ ap (map spoken) (unbroken (message_text n bytes) [] message-high) ∙ ap (λ (s : Option Spoken). s ∷ []) printed_spoken
