-- The card that is made: 17 bytes and 16 are the 33 bytes of the card. Assumes nothing.
use mathlib.Core.Path.{◌≡◌, sym, ap, ap₂, ◌∙◌}
use mathlib.Core.List.{List, [], ◌∷◌, ◌++◌, append_assoc, append-nil}
use Prim.Native.Nat.{ℕ, zero, suc, ◌+◌, ◌*◌, ◌≤◌, ◌<◌}
use native.Mathlib.Nat.{suc-add, zero-add}
use native.Mathlib.Omega.{arith}
use lib.ListN.{length, take, drop, get_or, length-append, length-drop}
use lib.Seq.{take-append-le, drop-append-le, get_or-drop}
use Rattle.wire.specs.Splice.{splice}
use Rattle.wire.proofs.SpliceLaws.{splice_behind}
use Rattle.wire.proofs.LittleLaws.{Bytes}
use Rattle.bits.specs.Bits.{msb, bits, num, packed}
use Rattle.bits.specs.Fields.{encode}
use Rattle.bits.proofs.Numbers.{length-msb, msb_cat, length-bits, length-packed, bytes_of}
use Rattle.bits.proofs.Copying.{bits-drop}
use Rattle.table.specs.Places.{settings_1, settings_2}
use Rattle.card.specs.Card.{layout, point_widths, point_fields, point_bits, card_bits, card_of}
use Rattle.card.proofs.Fields.{enable_lt, length_point}

-- ---- lengths

pub length-card_bits : (values : List ℕ) → Bytes values → length (card_bits values) ≡ 264
unfolding card_bits
length-card_bits values h =
    simp (length-append, length-msb, length_point values settings_1 h, length_point values settings_2 h)

pub length_card : (values : List ℕ) → length (card_of values) ≡ 33
unfolding card_of
length_card values = length-packed 33 (card_bits values)

-- ---- bits as bytes, in two parts

packed-append : (m n : ℕ) (A B : List ℕ) → length A ≡ 8 * m → packed (m + n) (A ++ B) ≡ packed m A ++ packed n B
unfolding packed
packed-append zero n (a ∷ A) B h = absurd (omega arith)
packed-append zero n [] B h = rw zero-add
packed-append (suc m) n A B h =
    let g : 8 ≤ length A = omega arith in
    rw (suc-add m n, take-append-le 8 A B g, drop-append-le 8 A B g) (ap (λ (l : List ℕ). num (take 8 A) ∷ l) (packed-append m n (drop 8 A) B (omega (arith, length-drop 8 A))))

-- bytes whose first 264 bits are replaced have 33 others
from_bits : (s c E : List ℕ) → Bytes s → Bytes c → length c ≡ length s → 33 ≤ length s → length E ≡ 264 → bits c ≡ splice (bits s) 0 E → c ≡ splice s 0 (packed 33 E)
unfolding splice
from_bits s c E hs hc n room e b =
    let r : List ℕ = drop 33 s in
    let z : 0 + length E ≡ 8 * 33 = omega arith in
    let w : bits c ≡ E ++ bits r = b ∙ rw (z, bits-drop s 33) in
    let m : length c ≡ 33 + length r = omega (arith, length-drop 33 s) in
    let hr : Bytes r = λ k. rw get_or-drop (hs (33 + k)) in
    sym (bytes_of c hc) ∙ ap₂ packed m w ∙ packed-append 33 (length r) E (bits r) e ∙ rw (bytes_of r hr, length-packed 33 E)

two_bits : (h l : ℕ) → l < 2 → msb 2 (h * 2 + l) ≡ msb 1 h ++ msb 1 l
two_bits h l e = msb_cat 1 1 h l e

-- six bits, four words and two bits, then four words, are layout, point 1 and point 2
regrouped : (h l a b c d i m e f g k : ℕ) → h < 2 → l < 2 → i < 2 → m < 2
    → (msb 6 (4 + (h * 2 + l)) ++ (msb 32 a ++ (msb 32 b ++ (msb 32 c ++ (msb 32 d ++ msb 2 (i * 2 + m)))))) ++ (msb 32 e ++ (msb 32 f ++ (msb 32 g ++ msb 32 k)))
    ≡ msb 4 layout ++ (encode point_widths (h ∷ l ∷ a ∷ b ∷ c ∷ d ∷ []) ++ encode point_widths (i ∷ m ∷ e ∷ f ∷ g ∷ k ∷ []))
unfolding encode
regrouped h l a b c d i m e f g k hh hl hi hm =
    rw (msb_cat 4 2 1 (h * 2 + l) (omega arith), two_bits h l hl, two_bits i m hm) (simp (append_assoc, append-nil))

-- the first 17 bytes and the 16 behind them are the card
pub card_made : (values s t c one two : List ℕ) (h m : ℕ) → Bytes values → Bytes s → Bytes c → length c ≡ length s → 33 ≤ length s
    → one ≡ point_fields values settings_1 → two ≡ point_fields values settings_2 → h ≡ get_or one 0 0 * 2 + get_or one 1 0 → m ≡ get_or two 0 0 * 2 + get_or two 1 0
    → bits t ≡ splice (bits s) 0 (msb 6 (4 + h) ++ (msb 32 (get_or one 2 0) ++ (msb 32 (get_or one 3 0) ++ (msb 32 (get_or one 4 0) ++ (msb 32 (get_or one 5 0) ++ msb 2 m)))))
    → bits c ≡ splice (bits t) 136 (msb 32 (get_or two 2 0) ++ (msb 32 (get_or two 3 0) ++ (msb 32 (get_or two 4 0) ++ msb 32 (get_or two 5 0))))
    → c ≡ splice s 0 (card_of values)
unfolding card_of card_bits point_bits point_fields
card_made values s t c one two h m hv hs hc n room e1 e2 eh em et ec =
    let A : List ℕ = msb 6 (4 + h) ++ (msb 32 (get_or one 2 0) ++ (msb 32 (get_or one 3 0) ++ (msb 32 (get_or one 4 0) ++ (msb 32 (get_or one 5 0) ++ msb 2 m)))) in
    let Q : List ℕ = msb 32 (get_or two 2 0) ++ (msb 32 (get_or two 3 0) ++ (msb 32 (get_or two 4 0) ++ msb 32 (get_or two 5 0))) in
    let la : length A ≡ 136 = simp (length-append, length-msb) in
    let lq : length Q ≡ 128 = simp (length-append, length-msb) in
    let same : A ++ Q ≡ card_bits values =
    rw (eh, em, e1, e2) (regrouped _ _ _ _ _ _ _ _ _ _ _ _ (enable_lt values _) (enable_lt values _) (enable_lt values _) (enable_lt values _)) in
    from_bits s c (card_bits values) hs hc n room (length-card_bits values hv)
    (ec ∙ ap (λ (x : List ℕ). splice x 136 Q) et ∙ splice_behind (bits s) 0 A Q 136 (omega arith) (omega (arith, length-bits s)) ∙ ap (splice (bits s) 0) same)
