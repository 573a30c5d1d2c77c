-- A card as a byte and eight words: words put and cut where a field begins two bits before a whole byte. Assumes nothing.
use mathlib.Core.Path.{◌≡◌, sym, ap, ◌∙◌}
use mathlib.Core.List.{List, [], ◌∷◌, ◌++◌, append_assoc}
use Prim.Native.Nat.{ℕ, ◌+◌, ◌*◌, ◌/◌, ◌%◌, ◌<◌, ◌≤◌}
use native.Mathlib.Omega.{arith}
use lib.ListN.{length, get_or, set, length-append}
use lib.Seq.{drop-drop}
use Rattle.wire.specs.Splice.{splice}
use Rattle.bits.specs.Bits.{msb, bits, field}
use Rattle.bits.specs.Fields.{decode}
use Rattle.bits.proofs.Numbers.{length-msb, length-bits, msb_cat, msb_split}
use Rattle.bits.proofs.Parts.{field_more, field_lt, bits_get, byte_get, byte_put}
use Rattle.wire.proofs.SpliceLaws.{splice_behind}
use Rattle.card.specs.Card.{point_1, point_2, fields_of}

-- ---- words put

-- four words, one behind the other
pub words_put : (s p q r t : List ℕ) (at a b c d : ℕ) → at + 16 ≤ length s
    → bits p ≡ splice (bits s) (8 * at) (msb 32 a) → bits q ≡ splice (bits p) (8 * (at + 4)) (msb 32 b)
    → bits r ≡ splice (bits q) (8 * (at + 8)) (msb 32 c) → bits t ≡ splice (bits r) (8 * (at + 12)) (msb 32 d)
    → bits t ≡ splice (bits s) (8 * at) (msb 32 a ++ (msb 32 b ++ (msb 32 c ++ msb 32 d)))
words_put s p q r t at a b c d h ep eq er et =
    let n : length (bits s) ≡ 8 * length s = length-bits s in
    let la : length (msb 32 a) ≡ 32 = length-msb 32 a in
    let lb : length (msb 32 b) ≡ 32 = length-msb 32 b in
    let lc : length (msb 32 c) ≡ 32 = length-msb 32 c in
    let ld : length (msb 32 d) ≡ 32 = length-msb 32 d in
    let ab : length (msb 32 a ++ msb 32 b) ≡ 64 = omega (arith, length-append (msb 32 a) (msb 32 b)) in
    let abc : length ((msb 32 a ++ msb 32 b) ++ msb 32 c) ≡ 96 = omega (arith, length-append (msb 32 a ++ msb 32 b) (msb 32 c)) in
    rw (et, er, eq, ep, splice_behind (bits s) (8 * at) (msb 32 a) (msb 32 b) (8 * (at + 4)) (omega arith) (omega arith), splice_behind (bits s) (8 * at) (msb 32 a ++ msb 32 b) (msb 32 c) (8 * (at + 8)) (omega arith) (omega arith), splice_behind (bits s) (8 * at) ((msb 32 a ++ msb 32 b) ++ msb 32 c) (msb 32 d) (8 * (at + 12)) (omega arith) (omega arith))
    (simp append_assoc)

-- the two high bits of a word, and the 30 others
top : ℕ → List ℕ
top x = msb 2 (x / 1073741824)

rest : ℕ → List ℕ
rest x = msb 30 (x % 1073741824)

in_two : (x : ℕ) → msb 32 x ≡ top x ++ rest x
unfolding top rest
in_two x = msb_split 2 30 x

across : (x y w : ℕ) → y < 4294967296 → w ≡ x % 1073741824 * 4 + y / 1073741824 → msb 32 w ≡ rest x ++ top y
unfolding top rest
across x y w h e = rw e (msb_cat 30 2 (x % 1073741824) (y / 1073741824) (omega arith))

-- six bits, four words and two bits, put as a byte and four words
pub first_put : (s t : List ℕ) (head a b c d tail w x y z : ℕ) → 17 ≤ length s → tail < 4
    → a < 4294967296 → b < 4294967296 → c < 4294967296 → d < 4294967296
    → w ≡ a % 1073741824 * 4 + b / 1073741824 → x ≡ b % 1073741824 * 4 + c / 1073741824
    → y ≡ c % 1073741824 * 4 + d / 1073741824 → z ≡ d % 1073741824 * 4 + tail * 1073741824 / 1073741824
    → bits t ≡ splice (bits (set s 0 (head * 4 + a / 1073741824))) 8 (msb 32 w ++ (msb 32 x ++ (msb 32 y ++ msb 32 z)))
    → bits t ≡ splice (bits s) 0 (msb 6 head ++ (msb 32 a ++ (msb 32 b ++ (msb 32 c ++ (msb 32 d ++ msb 2 tail)))))
unfolding top
first_put s t head a b c d tail w x y z room ht ha hb hc hd ew ex ey ez e =
    let v : ℕ = head * 4 + a / 1073741824 in
    let W : List ℕ = msb 32 w ++ (msb 32 x ++ (msb 32 y ++ msb 32 z)) in
    let tt : tail * 1073741824 / 1073741824 ≡ tail = omega arith in
    let last : msb 32 z ≡ rest d ++ msb 2 tail = rw tt at (across d (tail * 1073741824) z (omega arith) ez) in
    let begin : msb 8 v ≡ msb 6 head ++ top a = msb_cat 6 2 head (a / 1073741824) (omega arith) in
    let lv : length (msb 8 v) ≡ 8 = length-msb 8 v in
    let lW : length W ≡ 128 = omega (arith, length-append (msb 32 w) (msb 32 x ++ (msb 32 y ++ msb 32 z)), length-append (msb 32 x) (msb 32 y ++ msb 32 z), length-append (msb 32 y) (msb 32 z), length-msb 32 w, length-msb 32 x, length-msb 32 y, length-msb 32 z) in
    let same : msb 8 v ++ W ≡ msb 6 head ++ (msb 32 a ++ (msb 32 b ++ (msb 32 c ++ (msb 32 d ++ msb 2 tail)))) =
    rw (begin, last, across a b w hb ew, across b c x hc ex, across c d y hd ey, in_two a, in_two b, in_two c, in_two d) (simp append_assoc) in
    e ∙ ap (λ (l : List ℕ). splice l 8 W) (byte_put s 0 v (omega arith))
    ∙ splice_behind (bits s) 0 (msb 8 v) W 8 (omega arith) (omega (arith, length-bits s))
    ∙ ap (splice (bits s) 0) same

-- ---- words cut

-- the fields of a point, one by one
fields_at : (card : List ℕ) (at : ℕ) → let B = bits card in
    fields_of card at ≡ field B at 1 ∷ field B (at + 1) 1 ∷ field B (at + 1 + 1) 32 ∷ field B (at + 1 + 1 + 32) 32 ∷ field B (at + 1 + 1 + 32 + 32) 32 ∷ field B (at + 1 + 1 + 32 + 32 + 32) 32 ∷ []
unfolding fields_of decode field
fields_at card at = simp drop-drop

-- the two low bits of n + 2, and the 30 high bits of the 32 behind them
cut_field : (s : List ℕ) (at n a b f : ℕ) → at + n + 2 + 32 ≤ 8 * length s → a ≡ field (bits s) at (n + 2) → b ≡ field (bits s) (at + n + 2) 32
    → f ≡ a % 4 * 1073741824 + b / 4 → f ≡ field (bits s) (at + n) 32
cut_field s at n a b f h ea eb ef =
    let B : List ℕ = bits s in
    let m : length B ≡ 8 * length s = length-bits s in
    let p : field B at (n + 2) ≡ field B at n * 4 + field B (at + n) 2 = field_more B at n 2 (omega arith) in
    let q : field B (at + n + 2) 32 ≡ field B (at + n + 2) 30 * 4 + field B (at + n + 2 + 30) 2 = field_more B (at + n + 2) 30 2 (omega arith) in
    let r : field B (at + n) 32 ≡ field B (at + n) 2 * 1073741824 + field B (at + n + 2) 30 = field_more B (at + n) 2 30 (omega arith) in
    let u : field B (at + n) 2 < 4 = field_lt s (at + n) 2 in
    let v : field B (at + n + 2 + 30) 2 < 4 = field_lt s (at + n + 2 + 30) 2 in
    omega arith

module _ (card : List ℕ) (size : length card ≡ 33) where
  pub head_layout : (x : ℕ) → x ≡ get_or card 0 0 → x < 256 → x / 16 ≡ field (bits card) 0 4
  head_layout x e h = omega (arith, bits_get card 0 0 4 4 (omega arith) (omega arith))

  pub fields_1 : (x a b c d f g h i : ℕ) → x ≡ get_or card 0 0 → x < 256
      → a ≡ field (bits card) 8 32 → b ≡ field (bits card) 40 32 → c ≡ field (bits card) 72 32 → d ≡ field (bits card) 104 32
      → f ≡ x % 4 * 1073741824 + a / 4 → g ≡ a % 4 * 1073741824 + b / 4 → h ≡ b % 4 * 1073741824 + c / 4 → i ≡ c % 4 * 1073741824 + d / 4
      → ◌≡◌ {A = List ℕ} (x / 8 % 2 ∷ x / 4 % 2 ∷ f ∷ g ∷ h ∷ i ∷ []) (fields_of card point_1)
  fields_1 x a b c d f g h i ex lx ea eb ec ed ef eg eh ei =
      let B : List ℕ = bits card in
      let y : x ≡ field B 0 8 = ex ∙ sym (byte_get card 0 (omega arith) (omega arith)) in
      let k : x / 8 % 2 ≡ field B 4 1 = rw ex (sym (bits_get card 0 4 1 3 (omega arith) (omega arith))) in
      let l : x / 4 % 2 ≡ field B 5 1 = rw ex (sym (bits_get card 0 5 1 2 (omega arith) (omega arith))) in
      rw (k, l, cut_field card 0 6 x a f (omega arith) y ea ef, cut_field card 8 30 a b g (omega arith) ea eb eg, cut_field card 40 30 b c h (omega arith) eb ec eh, cut_field card 72 30 c d i (omega arith) ec ed ei)
      (sym (fields_at card 4))

  pub fields_2 : (x a b c d : ℕ) → x ≡ get_or card 16 0 → x < 256
      → a ≡ field (bits card) 136 32 → b ≡ field (bits card) 168 32 → c ≡ field (bits card) 200 32 → d ≡ field (bits card) 232 32
      → ◌≡◌ {A = List ℕ} (x / 2 % 2 ∷ x % 2 ∷ a ∷ b ∷ c ∷ d ∷ []) (fields_of card point_2)
  fields_2 x a b c d ex lx ea eb ec ed =
      let B : List ℕ = bits card in
      let k : x / 2 % 2 ≡ field B 134 1 = rw ex (sym (bits_get card 16 6 1 1 (omega arith) (omega arith))) in
      let one : x / 1 % 2 ≡ x % 2 = omega arith in
      let l : x % 2 ≡ field B 135 1 = sym one ∙ rw ex (sym (bits_get card 16 7 1 0 (omega arith) (omega arith))) in
      rw (k, l, ea, eb, ec, ed) (sym (fields_at card 134))
