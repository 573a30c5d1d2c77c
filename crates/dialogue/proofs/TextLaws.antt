-- Digits, pairs of digits and printed bytes: one turn of each loop, and what digits come to. Assumes nothing.
use mathlib.Core.Bool.{Bool, true, false, cond, ◌&&◌, and-eq-true_iff}
use mathlib.Core.List.{List, [], ◌∷◌, ◌++◌}
use mathlib.Core.Path.{◌≡◌, refl, sym, ap, ◌∙◌}
use Prim.Native.Nat.{ℕ, zero, suc, ◌+◌, ◌-◌, ◌*◌, ◌/◌, ◌%◌, ◌≤◌, ◌<◌}
use native.Mathlib.Numerals.{add-one}
use native.Mathlib.Omega.{arith}
use lib.Dec.{leb, eqb}
use lib.ListN.{length, take, drop, get_or, set, length-set, length-drop, length-append, get_or-eq_default}
use lib.Seq.{drop-cons, take_all, take_at}
use borrow.Author.Tests.{leb-true, eqb-true, eq-eqb, ne_eqb}
use Rattle.wire.specs.Splice.{splice}
use Rattle.wire.proofs.SpliceLaws.{splice_cons, splice_none, splice_then, length-splice}
use Rattle.std.specs.Prelude.{Some, None}
use Rattle.dialogue.specs.declared.Spoken.{Spoken}
use Rattle.dialogue.specs.Text.{a_message, read, spoken, between, is_digit, digit_value, all_digits, pairs, is_message, without_return, capital, hex_text, message_text, answer_text, none_text, unknown_text}

pub between-low : (low b high : ℕ) → between low b high ≡ true → low ≤ b
unfolding between
between-low low b high h = leb-true low b ((and-eq-true_iff (leb low b) (leb b high)).0 h).0

pub between-high : (low b high : ℕ) → between low b high ≡ true → b ≤ high
unfolding between
between-high low b high h = leb-true b high ((and-eq-true_iff (leb low b) (leb b high)).0 h).1

-- a part that goes to the end
pub rest_whole : (l : List ℕ) (n : ℕ) → take (length l - n) (drop n l) ≡ drop n l
rest_whole l n = take_all (length l - n) (drop n l) (omega (arith, length-drop n l))

-- ---- one turn of each loop

pub digits_turn : (l : List ℕ) (i : ℕ) (d : Bool) → i < length l → d ≡ is_digit (get_or l i 0) → all_digits (drop i l) ≡ d && all_digits (drop (i + 1) l)
unfolding all_digits
digits_turn l i d h e = rw (add-one i, drop-cons l i 0 h, e)

pub pairs-turn : (l : List ℕ) (i : ℕ) → 2 * i + 1 < length l → pairs (drop (2 * i) l) ≡ (16 * digit_value (get_or l (2 * i) 0) + digit_value (get_or l (2 * i + 1) 0)) ∷ pairs (drop (2 * (i + 1)) l)
unfolding pairs
pairs-turn l i h =
    let e : 2 * i + 1 ≡ suc (2 * i) = omega arith in
    let f : 2 * (i + 1) ≡ suc (suc (2 * i)) = omega arith in
    rw (f, e, drop-cons l (2 * i) 0 (omega arith), drop-cons l (suc (2 * i)) 0 (omega arith))

pub hex_turn : (l : List ℕ) (i : ℕ) → i < length l → hex_text (drop i l) ≡ capital (get_or l i 0 / 16) ∷ capital (get_or l i 0 % 16) ∷ hex_text (drop (i + 1) l)
unfolding hex_text
hex_turn l i h = rw (add-one i, drop-cons l i 0 h)

pub length_hex : (l : List ℕ) → length (hex_text l) ≡ 2 * length l
unfolding hex_text
length_hex [] = refl
length_hex (b ∷ bs) = omega (arith, length_hex bs)

pub length_pairs : (n : ℕ) (l : List ℕ) → length l ≡ 2 * n → length (pairs l) ≡ n
unfolding pairs
length_pairs n [] h = omega arith
length_pairs n (a ∷ []) h = omega arith
length_pairs zero (a ∷ b ∷ l) h = omega arith
length_pairs (suc n) (a ∷ b ∷ l) h = ap suc (length_pairs n l (omega arith))

-- ---- stores

pub two_stores : (l : List ℕ) (at x y : ℕ) (vs : List ℕ) → at + 1 < length l → splice l at (x ∷ y ∷ vs) ≡ splice (set (set l at x) (at + 1) y) (at + 2) vs
two_stores l at x y vs h =
    let p : at + 1 ≡ suc at = omega arith in
    let q : at + 2 ≡ suc (suc at) = omega arith in
    rw (p, q) (splice_cons l at x (y ∷ vs) (omega arith) ∙ splice_cons (set l at x) (suc at) y vs (simp length-set (omega arith)))

-- a byte's two digits are stored, and the others are still to come
pub pair_turn : (l all : List ℕ) (at i x y : ℕ) (vs : List ℕ) → at + 2 * i + 1 < length l → splice l (at + 2 * i) (x ∷ y ∷ vs) ≡ all → splice (set (set l (at + 2 * i) x) (at + 2 * i + 1) y) (at + 2 * (i + 1)) vs ≡ all
pair_turn l all at i x y vs h e =
    let q : at + 2 * (i + 1) ≡ at + 2 * i + 2 = omega arith in
    rw q (sym (two_stores l (at + 2 * i) x y vs h) ∙ e)

-- two digits are read, and the byte is stored
pub byte_turn : (l all text : List ℕ) (i high low : ℕ) → i < length l → 2 * i + 1 < length text → high ≡ digit_value (get_or text (2 * i) 0) → low ≡ digit_value (get_or text (2 * i + 1) 0) → splice l i (pairs (drop (2 * i) text)) ≡ all → splice (set l i (16 * high + low)) (i + 1) (pairs (drop (2 * (i + 1)) text)) ≡ all
byte_turn l all text i high low h k p q e = rw (p, q) (one_turn _ _ (rw (pairs-turn text i k) at e))
  where
    one_turn : (b : ℕ) (bs : List ℕ) → splice l i (b ∷ bs) ≡ all → splice (set l i b) (i + 1) bs ≡ all
    one_turn b bs f = rw (add-one i) (sym (splice_cons l i b bs h) ∙ f)

pub unknown_put : (room : List ℕ) → 19 ≤ length room → set (set room 0 63) 1 10 ≡ splice room 0 unknown_text
unfolding unknown_text
unknown_put room h = sym (two_stores room 0 63 10 [] (omega arith) ∙ splice_none _ 2)

pub none_put : (room : List ℕ) (n : ℕ) → 19 ≤ length room → set (set (set (set room 0 (48 + n)) 1 32) 2 45) 3 10 ≡ splice room 0 (none_text n)
unfolding none_text
none_put room n h =
    let room₂ = set (set room 0 (48 + n)) 1 32 in
    sym (two_stores room 0 (48 + n) 32 (45 ∷ 10 ∷ []) (omega arith) ∙ two_stores room₂ 2 45 10 [] (simp length-set (omega arith)) ∙ splice_none _ 4)

pub length_put : (room put bytes : List ℕ) (n : ℕ) → 19 ≤ length room → length bytes ≡ 8 → put ≡ splice (set (set room 0 (48 + n)) 1 32) 2 (hex_text bytes) → length put ≡ length room
length_put room put bytes n h k e =
    let long : length (set (set room 0 (48 + n)) 1 32) ≡ length room = simp length-set in
    rw (e, length-splice (set (set room 0 (48 + n)) 1 32) 2 (hex_text bytes) (omega (arith, length_hex bytes))) long

pub answer_put : (room put bytes : List ℕ) (n : ℕ) → 19 ≤ length room → length bytes ≡ 8 → put ≡ splice (set (set room 0 (48 + n)) 1 32) 2 (hex_text bytes) → set put 18 10 ≡ splice room 0 (answer_text n bytes)
unfolding answer_text message_text
answer_put room put bytes n h k e =
    let room₂ = set (set room 0 (48 + n)) 1 32 in
    let long : length room₂ ≡ length room = simp length-set in
    let m : 2 + length (hex_text bytes) ≡ 18 = omega (arith, length_hex bytes) in
    let then = splice_then room₂ 2 (hex_text bytes) (10 ∷ []) (omega (arith, length_hex bytes)) in
    let last : splice put 18 (10 ∷ []) ≡ set put 18 10 = splice_cons put 18 10 [] (omega (arith, length_put room put bytes n h k e)) ∙ splice_none _ 19 in
    sym last ∙ rw (e, ← m) (then ∙ sym (two_stores room 0 (48 + n) 32 (hex_text bytes ++ (10 ∷ [])) (omega arith)))

-- ---- a whole line

pub message_long : (l : List ℕ) → is_message l ≡ true → length l ≡ 18
unfolding is_message
message_long l h = eqb-true (length l) 18 ((and-eq-true_iff (eqb (length l) 18) _).0 h).0

message_first : (l : List ℕ) → is_message l ≡ true → between 48 (get_or l 0 0) 49 ≡ true
unfolding is_message
message_first l h = ((and-eq-true_iff (between 48 (get_or l 0 0) 49) _).0 ((and-eq-true_iff (eqb (length l) 18) _).0 h).1).0

pub message-line : (l : List ℕ) → is_message l ≡ true → 48 ≤ get_or l 0 0
message-line l h = between-low 48 (get_or l 0 0) 49 (message_first l h)

pub message_figure : (l : List ℕ) → is_message l ≡ true → get_or l 0 0 ≤ 49
message_figure l h = between-high 48 (get_or l 0 0) 49 (message_first l h)

pub return_empty : (l : List ℕ) → length l ≡ 0 → without_return l ≡ l
unfolding without_return
return_empty l h =
    let e : get_or l (length l - 1) 0 ≡ 0 = get_or-eq_default l 0 {n = length l - 1} (omega arith) in
    rw e

pub return_dropped : (l : List ℕ) → get_or l (length l - 1) 0 ≡ 13 → without_return l ≡ take (length l - 1) l
unfolding without_return
return_dropped l h = rw (eq-eqb _ 13 h)

pub return_absent : (l : List ℕ) → (get_or l (length l - 1) 0 ≡ 13 → ⊥) → without_return l ≡ l
unfolding without_return
return_absent l h = rw (ne_eqb _ 13 h)

-- ---- what a caller needs of the printed lines

pub length-answer : (n : ℕ) (bytes : List ℕ) → length bytes ≡ 8 → length (answer_text n bytes) ≡ 19
unfolding answer_text message_text
length-answer n bytes h = rw length-append (omega (arith, length_hex bytes))

-- what was put at the start of the room stands there
pub text_put : (text room put : List ℕ) (r : ℕ) → r ≡ length text → put ≡ splice room 0 text → take r put ≡ text
unfolding splice
text_put text room put r h e = rw e (take_at text (drop (0 + length text) room) r (sym h))

-- a message is on line 0 or 1
pub spoken-line : (l : List ℕ) (s : Spoken) → spoken l ≡ Some s → s.line < 2
unfolding spoken read
spoken-line l s = go (is_message (without_return l)) refl
  where
    go : (t : Bool) → is_message (without_return l) ≡ t → cond t (a_message (get_or (without_return l) 0 0 - 48) (pairs (drop 2 (without_return l)))) None ≡ Some s → s.line < 2
    go true e h = let k : get_or (without_return l) 0 0 - 48 ≡ s.line = cc in omega (arith, message_figure (without_return l) e)
    go false e h = absurd (cc)
