-- The laws of a field in packed bits: cut out of the bytes that it touches, merged into them, and what a byte says. Assumes nothing.
use mathlib.Core.List.{List, ◌∷◌, ◌++◌, append_assoc}
use mathlib.Core.Path.{◌≡◌, refl, sym, ap, ◌∙◌}
use Prim.Native.Nat.{ℕ, suc, ◌+◌, ◌-◌, ◌*◌, ◌/◌, ◌%◌, ◌^◌, ◌≤◌, ◌<◌}
use native.Mathlib.Nat.{mod-lt, mod-eq_of_lt, div-one, add-zero, lt_of_lt_of_le, mul_assoc, add-mul}
use native.Mathlib.Omega.{arith}
use lib.Arith.{digits_lt}
use lib.ListN.{length, take, drop, get_or, set, length-append, length-take}
use lib.Pow.{pow_pos, mod-mod-pow, pow-add, pow_mono, high, low, field as pow-field}
use lib.Seq.{take_at, drop_at, length-take-le, drop-drop, drop-cons, split_at, set_split, take-add}
use Rattle.bits.proofs.Numbers.{length-msb, length-bits, bits-append, num-append, num-msb, num_shift, msb_cat, msb_split, msb-num, small_bits, small_take, small_drop, num_lt}
use Rattle.bits.specs.Bits.{msb, bits, num_from, num, field, merged}
use Rattle.wire.proofs.SpliceLaws.{parts, splice_mid, part_length}
use Rattle.wire.specs.Splice.{splice}

-- ---- a field

pub field_mid : (A M Z : List ℕ) (at w : ℕ) → length A ≡ at → length M ≡ w → field (A ++ (M ++ Z)) at w ≡ num M
unfolding field
field_mid A M Z at w ha hm = rw (drop_at A (M ++ Z) at ha, take_at M Z w hm)

pub field_lt : (xs : List ℕ) (at w : ℕ) → field (bits xs) at w < 2 ^ w
unfolding field
field_lt xs at w =
    lt_of_lt_of_le (num_lt (take w (drop at (bits xs))) (small_take w _ (small_drop at _ (small_bits xs))))
    (pow_mono (omega (arith, length-take w (drop at (bits xs)))))

pub field_fits : (s : List ℕ) (at w k : ℕ) → w ≤ k → field (bits s) at w < 2 ^ k
field_fits s at w k h = lt_of_lt_of_le (field_lt s at w) (pow_mono h)

pub field_zero : (l : List ℕ) (at : ℕ) → field l at 0 ≡ 0
unfolding field num num_from
field_zero l at = refl

pub field_more : (l : List ℕ) (at w n : ℕ) → at + w + n ≤ length l → field l at (w + n) ≡ field l at w * 2 ^ n + field l (at + w) n
unfolding field num
field_more l at w n h =
    ap num (take-add w n (drop at l))
    ∙ num-append 0 (take w (drop at l)) (take n (drop w (drop at l)))
    ∙ num_shift (field l at w) (take n (drop w (drop at l)))
    ∙ rw (drop-drop w at l, part_length l (at + w) n h)

-- a field cut out of a wider one
pub field_cut : (s : List ℕ) (a o w e : ℕ) → a + (o + (w + e)) ≤ 8 * length s → field (bits s) a (o + (w + e)) / 2 ^ e % 2 ^ w ≡ field (bits s) (a + o) w
field_cut s a o w e h =
    let A : ℕ = field (bits s) a o in
    let B : ℕ = field (bits s) (a + o) w in
    let C : ℕ = field (bits s) (a + o + w) e in
    let n = length-bits s in
    let p : field (bits s) a (o + (w + e)) ≡ (A * 2 ^ w + B) * 2 ^ e + C =
    field_more (bits s) a o (w + e) (omega arith)
    ∙ ap (λ (x : ℕ). A * 2 ^ (w + e) + x) (field_more (bits s) (a + o) w e (omega arith))
    ∙ omega (arith, ap (λ (x : ℕ). A * x) (pow-add 2 w e), mul_assoc A (2 ^ w) (2 ^ e), add-mul (A * 2 ^ w) B (2 ^ e)) in
    rw (p, high (A * 2 ^ w + B) e (field_lt s (a + o + w) e), low A w (field_lt s (a + o) w))

-- ---- a number in three parts

pub three_parts : (x k o n e : ℕ) → o + (n + e) ≡ k → msb k x ≡ msb o (x / 2 ^ (n + e)) ++ (msb n (x / 2 ^ e % 2 ^ n) ++ msb e (x % 2 ^ e))
three_parts x k o n e h =
    ap (λ (w : ℕ). msb w x) (sym h) ∙ msb_split o (n + e) x
    ∙ ap (λ (l : List ℕ). msb o (x / 2 ^ (n + e)) ++ l)
    (msb_split n e (x % 2 ^ (n + e)) ∙ rw (pow-field x n e, mod-mod-pow x n e))

pub low_lt : (x n e v : ℕ) → v < 2 ^ n → v * 2 ^ e + x % 2 ^ e < 2 ^ (n + e)
low_lt x n e v h = rw (pow-add 2 n e) (digits_lt h (mod-lt x (pow_pos e)))

three_merged : (x o n e v : ℕ) → v < 2 ^ n → msb (o + (n + e)) (merged x n e v) ≡ msb o (x / 2 ^ (n + e)) ++ (msb n v ++ msb e (x % 2 ^ e))
unfolding merged
three_merged x o n e v hv =
    msb_cat o (n + e) (x / 2 ^ (n + e)) (v * 2 ^ e + x % 2 ^ e) (low_lt x n e v hv)
    ∙ ap (λ (l : List ℕ). msb o (x / 2 ^ (n + e)) ++ l) (msb_cat n e v (x % 2 ^ e) (mod-lt x (pow_pos e)))

-- a field merged into a wider one that is put back
module _ (s : List ℕ) (a o w e v : ℕ) (h : a + (o + (w + e)) ≤ 8 * length s) (hv : v < 2 ^ w) where
  whole : ℕ
  whole = field (bits s) a (o + (w + e))

  abbrev above : List ℕ
  above = msb o (whole / 2 ^ (w + e))

  abbrev below : List ℕ
  below = msb e (whole % 2 ^ e)

  abbrev before : List ℕ
  before = take a (bits s)

  abbrev after : List ℕ
  after = drop (a + (o + (w + e))) (bits s)

  before_length : length before ≡ a
  before_length = length-take-le a (bits s) (omega (arith, length-bits s))

  part_is : take (o + (w + e)) (drop a (bits s)) ≡ above ++ (msb w (whole / 2 ^ e % 2 ^ w) ++ below)
  unfolding whole field
  part_is =
      sym (msb-num (o + (w + e)) (take (o + (w + e)) (drop a (bits s))) (small_take (o + (w + e)) (drop a (bits s)) (small_drop a (bits s) (small_bits s))) (part_length (bits s) a (o + (w + e)) (omega (arith, length-bits s))))
      ∙ three_parts whole (o + (w + e)) o w e refl

  split_bits : bits s ≡ (before ++ above) ++ (msb w (whole / 2 ^ e % 2 ^ w) ++ (below ++ after))
  split_bits =
      parts (bits s) a (o + (w + e))
      ∙ ap (λ (l : List ℕ). before ++ (l ++ after)) part_is
      ∙ simp append_assoc

  put_whole : splice (bits s) a (msb (o + (w + e)) (merged whole w e v)) ≡ before ++ ((above ++ (msb w v ++ below)) ++ after)
  put_whole =
      ap (λ (l : List ℕ). splice l a (msb (o + (w + e)) (merged whole w e v))) (parts (bits s) a (o + (w + e)))
      ∙ splice_mid before (take (o + (w + e)) (drop a (bits s))) (msb (o + (w + e)) (merged whole w e v)) after a before_length
      (part_length (bits s) a (o + (w + e)) (omega (arith, length-bits s)) ∙ sym (length-msb _ _))
      ∙ ap (λ (l : List ℕ). before ++ (l ++ after)) (three_merged whole o w e v hv)

  put_part : splice (bits s) (a + o) (msb w v) ≡ (before ++ above) ++ (msb w v ++ (below ++ after))
  put_part =
      ap (λ (l : List ℕ). splice l (a + o) (msb w v)) split_bits
      ∙ splice_mid (before ++ above) (msb w (whole / 2 ^ e % 2 ^ w)) (msb w v) (below ++ after) (a + o)
      (omega (arith, length-append before above, before_length, length-msb o (whole / 2 ^ (w + e))))
      (length-msb w _ ∙ sym (length-msb w v))

  pub splice-merged : splice (bits s) a (msb (o + (w + e)) (merged (field (bits s) a (o + (w + e))) w e v)) ≡ splice (bits s) (a + o) (msb w v)
  unfolding whole
  splice-merged = put_whole ∙ simp append_assoc (sym (put_part ∙ simp append_assoc))

-- ---- a byte

pre : List ℕ → ℕ → ℕ → ℕ → ℕ → List ℕ
pre s p o n e = bits (take p s) ++ msb o (get_or s p 0 / 2 ^ (n + e))

post : List ℕ → ℕ → ℕ → List ℕ
post s p e = msb e (get_or s p 0 % 2 ^ e) ++ bits (drop (suc p) s)

module _ (s : List ℕ) (p o n e : ℕ) (hp : p < length s) (h : o + (n + e) ≡ 8) where
  bits_parts : bits s ≡ pre s p o n e ++ (msb n (get_or s p 0 / 2 ^ e % 2 ^ n) ++ post s p e)
  unfolding bits pre post
  bits_parts =
      ap bits (split_at s p 0 hp) ∙ bits-append (take p s) (get_or s p 0 ∷ drop (suc p) s)
      ∙ (rw (three_parts (get_or s p 0) 8 o n e h) (simp append_assoc))

  pre_length : length (pre s p o n e) ≡ 8 * p + o
  unfolding pre
  pre_length =
      let x : ℕ = get_or s p 0 / 2 ^ (n + e) in
      omega (arith, length-append (bits (take p s)) (msb o x), length-msb o x, length-bits (take p s), length-take-le p s (omega arith))

  pub bits_get : field (bits s) (8 * p + o) n ≡ get_or s p 0 / 2 ^ e % 2 ^ n
  bits_get =
      ap (λ (l : List ℕ). field l (8 * p + o) n) bits_parts
      ∙ field_mid (pre s p o n e) (msb n (get_or s p 0 / 2 ^ e % 2 ^ n)) (post s p e) (8 * p + o) n pre_length (length-msb n _)
      ∙ num-msb n _ (mod-lt _ (pow_pos n))

pub byte_get : (s : List ℕ) (p : ℕ) → p < length s → get_or s p 0 < 256 → field (bits s) (8 * p) 8 ≡ get_or s p 0
byte_get s p h g = rw (add-zero (8 * p)) at (bits_get s p 0 8 0 h refl) ∙ (rw (div-one (get_or s p 0)) (mod-eq_of_lt g))

pub byte_put : (s : List ℕ) (p x : ℕ) → p < length s → bits (set s p x) ≡ splice (bits s) (8 * p) (msb 8 x)
unfolding bits
byte_put s p x h =
    let n : length (bits (take p s)) ≡ 8 * p = omega (arith, length-bits (take p s), length-take-le p s (omega arith)) in
    ap bits (set_split s p x h) ∙ bits-append (take p s) (x ∷ drop (suc p) s)
    ∙ sym (splice_mid (bits (take p s)) (msb 8 (get_or s p 0)) (msb 8 x) (bits (drop (suc p) s)) (8 * p) n (length-msb 8 _ ∙ sym (length-msb 8 x)))
    ∙ ap (λ (l : List ℕ). splice l (8 * p) (msb 8 x)) (sym (ap bits (split_at s p 0 h) ∙ bits-append (take p s) (get_or s p 0 ∷ drop (suc p) s)))

-- ---- one bit

pub field_one : (l : List ℕ) (k : ℕ) → k < length l → field l k 1 ≡ get_or l k 0
unfolding field num num_from
field_one l k h =
    let e : 0 * 2 + get_or l k 0 ≡ get_or l k 0 = omega arith in
    rw (drop-cons l k 0 h, e)

-- bit k among the bits of its byte
pub in_byte : (k : ℕ) → 8 * (k / 8) + k % 8 ≡ k
in_byte k = omega arith

module _ (s : List ℕ) (k : ℕ) (h : k < 8 * length s) where
  bit_get : field (bits s) k 1 ≡ get_or s (k / 8) 0 / 2 ^ (7 - k % 8) % 2
  bit_get = ap (λ (j : ℕ). field (bits s) j 1) (sym (in_byte k)) ∙ bits_get s (k / 8) (k % 8) 1 (7 - k % 8) (omega arith) (omega arith)

-- THE ORDER OF BITS: bit k is bit 7 - k % 8 of byte k / 8
pub bit_at : (s : List ℕ) (k : ℕ) → k < 8 * length s → get_or (bits s) k 0 ≡ get_or s (k / 8) 0 / 2 ^ (7 - k % 8) % 2
bit_at s k h = sym (field_one (bits s) k (omega (arith, length-bits s))) ∙ bit_get s k h
