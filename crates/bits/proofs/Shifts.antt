-- What the shifts of 64-bit numbers come to, and the turns of the loops over the bytes of a field. Assumes nothing.
use mathlib.Core.List.{List}
use mathlib.Core.Path.{◌≡◌, sym, ap, ◌∙◌}
use Prim.Native.Nat.{ℕ, ◌+◌, ◌-◌, ◌*◌, ◌/◌, ◌%◌, ◌^◌, ◌≤◌, ◌<◌}
use native.Mathlib.Nat.{one-mul, lt_of_lt_of_le, div-mul-le_self, mod-eq_of_lt, mul_assoc, add-zero}
use native.Mathlib.Omega.{arith}
use lib.Arith.{digits_lt}
use lib.Dec.{lit<}
use Rattle.std.proofs.lemmas.List.{get_or-drop, get_or-take}
use lib.ListN.{length, take, drop, get_or, set}
use lib.Pow.{pow_pos, pow-add, pow_mono, shl_exact, shl-shr, shr-shr, shr_lt, low, field as pow-field}
use Rattle.bits.proofs.Numbers.{length-bits, length-msb, msb_split}
use Rattle.bits.proofs.Parts.{low_lt, field_lt, field_more, field_cut, splice-merged, byte_get, byte_put, in_byte}
use Rattle.bits.specs.Bits.{msb, bits, field, merged}
use Rattle.wire.proofs.LittleLaws.{Bytes}
use Rattle.wire.proofs.SpliceLaws.{splice_front}
use Rattle.wire.specs.Splice.{splice}

pub one_shifted : (e : ℕ) → e < 64 → (1 * 2 ^ e) % 2 ^ 64 ≡ 2 ^ e
one_shifted e h = shl_exact {a = 1} 1 e 64 (lit< tt) (omega arith) ∙ one-mul _

-- what merging by shifts asks and gives
module _ (x n e v : ℕ) (hx : x < 2 ^ 40) (h : n + e ≤ 40) (hv : v < 2 ^ n) where
  high-kept : (x / 2 ^ (n + e) * 2 ^ (n + e)) % 2 ^ 64 ≡ x / 2 ^ (n + e) * 2 ^ (n + e)
  high-kept = mod-eq_of_lt (omega (arith, div-mul-le_self x (2 ^ (n + e))))

  value-kept : (v * 2 ^ e) % 2 ^ 64 ≡ v * 2 ^ e
  value-kept = shl_exact n e 64 hv (omega arith)

  low_part : (v * 2 ^ e) % 2 ^ 64 + x % ((1 * 2 ^ e) % 2 ^ 64) ≡ v * 2 ^ e + x % 2 ^ e
  low_part = rw (value-kept, one_shifted e (omega arith))

  pub low_fits : (v * 2 ^ e) % 2 ^ 64 + x % ((1 * 2 ^ e) % 2 ^ 64) < 2 ^ 40
  low_fits = rw low_part (lt_of_lt_of_le (low_lt x n e v hv) (pow_mono {j = 40} h))

  pub high_fits : (x / 2 ^ (n + e) * 2 ^ (n + e)) % 2 ^ 64 < 2 ^ 40
  high_fits = rw high-kept (omega (arith, div-mul-le_self x (2 ^ (n + e))))

  pub merged_shifted : (x / 2 ^ (n + e) * 2 ^ (n + e)) % 2 ^ 64 + ((v * 2 ^ e) % 2 ^ 64 + x % ((1 * 2 ^ e) % 2 ^ 64)) ≡ merged x n e v
  unfolding merged
  merged_shifted = rw (high-kept, low_part)

-- one byte more of a window, and that it fits
pub window_turn : (s : List ℕ) (first k n acc x : ℕ) → Bytes s → n < k → first + k ≤ length s → acc ≡ field (bits s) (8 * first) (8 * n) → x ≡ get_or (take k (drop first s)) n 0
    → acc * 256 + x ≡ field (bits s) (8 * first) (8 * (n + 1))
window_turn s first k n acc x b h g p q =
    let w : 8 * (n + 1) ≡ 8 * n + 8 = omega arith in
    let j : 8 * first + 8 * n ≡ 8 * (first + n) = omega arith in
    let e : x ≡ get_or s (first + n) 0 = q ∙ get_or-take k (drop first s) n 0 h ∙ get_or-drop first s n 0 in
    let y : field (bits s) (8 * (first + n)) 8 ≡ x = byte_get s (first + n) (omega arith) (b (first + n)) ∙ sym e in
    sym (rw w (field_more (bits s) (8 * first) (8 * n) 8 (omega (arith, length-bits s)) ∙ rw (j, y, p)))

-- one byte more of a number that is spread
pub spread_turn : (s : List ℕ) (first i rest : ℕ) → first < i → i ≤ length s
    → splice (bits (set s (i - 1) (rest % 256))) (8 * first) (msb (8 * (i - 1 - first)) (rest / 256)) ≡ splice (bits s) (8 * first) (msb (8 * (i - first)) rest)
spread_turn s first i rest h g =
    let xs : List ℕ = msb (8 * (i - 1 - first)) (rest / 256) in
    let ys : List ℕ = msb 8 (rest % 256) in
    let n : length xs ≡ 8 * (i - 1 - first) = length-msb _ _ in
    let m : length ys ≡ 8 = length-msb 8 _ in
    let k : 8 * (i - 1) ≡ 8 * first + length xs = omega arith in
    let w : 8 * (i - first) ≡ 8 * (i - 1 - first) + 8 = omega arith in
    ap (λ (l : List ℕ). splice l (8 * first) xs) (byte_put s (i - 1) (rest % 256) (omega arith) ∙ ap (λ (j : ℕ). splice (bits s) j ys) k)
    ∙ splice_front (bits s) (8 * first) xs ys (omega (arith, length-bits s))
    ∙ ap (splice (bits s) (8 * first)) (sym (ap (λ (j : ℕ). msb j rest) w ∙ msb_split (8 * (i - 1 - first)) 8 rest))

-- a field and the bytes that it touches
module _ (s : List ℕ) (at width : ℕ) (h : at + width ≤ 8 * length s) where
  spans : 8 * ((at + width + 7) / 8 - at / 8) ≡ at % 8 + (width + (8 * ((at + width + 7) / 8) - at - width))
  spans = omega arith

  pub field_got : (v : ℕ) → v ≡ field (bits s) (8 * (at / 8)) (8 * ((at + width + 7) / 8 - at / 8))
      → v / 2 ^ (8 * ((at + width + 7) / 8) - at - width) % 2 ^ width ≡ field (bits s) at width
  field_got v p =
      let e : ℕ = 8 * ((at + width + 7) / 8) - at - width in
      ap (λ (x : ℕ). x / 2 ^ e % 2 ^ width) (p ∙ ap (field (bits s) (8 * (at / 8))) spans)
      ∙ field_cut s (8 * (at / 8)) (at % 8) width e (omega arith)
      ∙ ap (λ (j : ℕ). field (bits s) j width) (in_byte at)

  pub field_spread : (v m x : ℕ) → x < 2 ^ width → v ≡ field (bits s) (8 * (at / 8)) (8 * ((at + width + 7) / 8 - at / 8))
      → m ≡ merged v width (8 * ((at + width + 7) / 8) - at - width) x
      → splice (bits s) (8 * (at / 8)) (msb (8 * ((at + width + 7) / 8 - at / 8)) m) ≡ splice (bits s) at (msb width x)
  field_spread v m x g p q =
      let e : ℕ = 8 * ((at + width + 7) / 8) - at - width in
      ap (λ (y : ℕ). splice (bits s) (8 * (at / 8)) (msb (8 * ((at + width + 7) / 8 - at / 8)) y))
      (q ∙ ap (λ (y : ℕ). merged y width e x) (p ∙ ap (field (bits s) (8 * (at / 8))) spans))
      ∙ ap (λ (k : ℕ). splice (bits s) (8 * (at / 8)) (msb k (merged (field (bits s) (8 * (at / 8)) (at % 8 + (width + e))) width e x))) spans
      ∙ splice-merged s (8 * (at / 8)) (at % 8) width e x (omega arith) g
      ∙ ap (λ (j : ℕ). splice (bits s) j (msb width x)) (in_byte at)

merged_lt : (x o n e v : ℕ) → x < 2 ^ (o + (n + e)) → v < 2 ^ n → merged x n e v < 2 ^ (o + (n + e))
unfolding merged
merged_lt x o n e v hx hv = rw (pow-add 2 o (n + e)) (digits_lt (shr_lt o (n + e) hx) (low_lt x n e v hv))

-- a field inside eight bytes
module _ (s : List ℕ) (at width : ℕ) (h : at / 8 + 8 ≤ length s) (k : width ≤ 32) (x : ℕ) (is : x ≡ field (bits s) (8 * (at / 8)) (8 * (at / 8 + 8 - at / 8))) where
  abbrev behind : ℕ
  behind = 64 - at % 8 - width

  eight_is : x ≡ field (bits s) (8 * (at / 8)) (at % 8 + (width + behind))
  eight_is =
      let e : 8 * (at / 8 + 8 - at / 8) ≡ at % 8 + (width + behind) = omega arith in
      is ∙ ap (field (bits s) (8 * (at / 8))) e

  -- shifted up, the bits before the field are lost; shifted down, those behind it
  pub field_shifted : (x * 2 ^ (at % 8)) % 2 ^ 64 / 2 ^ (64 - width) ≡ field (bits s) at width
  field_shifted =
      let n : 64 ≡ width + (64 - width) = omega arith in
      let m : 64 - width ≡ at % 8 + behind = omega arith in
      ap (λ (j : ℕ). (x * 2 ^ (at % 8)) % 2 ^ j / 2 ^ (64 - width)) n
      ∙ pow-field (x * 2 ^ (at % 8)) width (64 - width)
      ∙ ap (λ (j : ℕ). x * 2 ^ (at % 8) / 2 ^ j % 2 ^ width) m
      ∙ ap (λ (j : ℕ). j % 2 ^ width) (sym (shr-shr (x * 2 ^ (at % 8)) (at % 8) behind))
      ∙ ap (λ (j : ℕ). j / 2 ^ behind % 2 ^ width) (shl-shr x (at % 8) ∙ eight_is)
      ∙ field_cut s (8 * (at / 8)) (at % 8) width behind (omega arith)
      ∙ ap (λ (j : ℕ). field (bits s) j width) (in_byte at)

  -- the eight bytes are zero from the field on
  module _ (v : ℕ) (fits : v < 2 ^ width) (zero-on : field (bits s) at (64 - at % 8) ≡ 0) where
    ahead : ℕ
    ahead = field (bits s) (8 * (at / 8)) (at % 8)

    ahead_is : x ≡ ahead * 2 ^ (width + behind)
    unfolding ahead
    ahead_is =
        let e : 64 - at % 8 ≡ width + behind = omega arith in
        eight_is
        ∙ field_more (bits s) (8 * (at / 8)) (at % 8) (width + behind) (omega (arith, length-bits s))
        ∙ omega (arith, sym (ap (λ (j : ℕ). field (bits s) j (width + behind)) (in_byte at)), ap (field (bits s) at) e)

    shifted : (v * 2 ^ behind) % 2 ^ 64 ≡ v * 2 ^ behind
    shifted = shl_exact width behind 64 fits (omega arith)

    -- so the value is merged by adding it
    sum_is : x + (v * 2 ^ behind) % 2 ^ 64 ≡ merged x width behind v
    unfolding merged
    sum_is =
        let n : ℕ = 2 ^ (width + behind) in
        let up : x / n ≡ ahead = ap (λ (j : ℕ). j / n) ahead_is ∙ shl-shr ahead (width + behind) in
        let e : x ≡ ahead * 2 ^ width * 2 ^ behind + 0 = ahead_is ∙ ap (λ (j : ℕ). ahead * j) (pow-add 2 width behind) ∙ sym (mul_assoc ahead (2 ^ width) (2 ^ behind)) ∙ sym (add-zero _) in
        let down : x % 2 ^ behind ≡ 0 = ap (λ (j : ℕ). j % 2 ^ behind) e ∙ low (ahead * 2 ^ width) behind (pow_pos behind) in
        rw (shifted, up, down) (omega (arith, ahead_is))

    pub sum_fits : x + (v * 2 ^ behind) % 2 ^ 64 < 2 ^ 64
    sum_fits =
        let e : at % 8 + (width + behind) ≡ 64 = omega arith in
        rw sum_is (rw e at (merged_lt x (at % 8) width behind v (rw eight_is (field_lt s (8 * (at / 8)) (at % 8 + (width + behind)))) fits))

    pub field_added : splice (bits s) (8 * (at / 8)) (msb (8 * (at / 8 + 8 - at / 8)) (x + (v * 2 ^ behind) % 2 ^ 64)) ≡ splice (bits s) at (msb width v)
    field_added =
        let e : 8 * (at / 8 + 8 - at / 8) ≡ at % 8 + (width + behind) = omega arith in
        ap (λ (j : ℕ). splice (bits s) (8 * (at / 8)) (msb (8 * (at / 8 + 8 - at / 8)) j)) (sum_is ∙ ap (λ (j : ℕ). merged j width behind v) eight_is)
        ∙ ap (λ (j : ℕ). splice (bits s) (8 * (at / 8)) (msb j (merged (field (bits s) (8 * (at / 8)) (at % 8 + (width + behind))) width behind v))) e
        ∙ splice-merged s (8 * (at / 8)) (at % 8) width behind v (omega arith) fits
        ∙ ap (λ (j : ℕ). splice (bits s) j (msb width v)) (in_byte at)
