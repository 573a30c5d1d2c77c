-- Four whole bytes, as a little-endian word that is turned, are a field of 32 bits. Assumes nothing.
use mathlib.Core.List.{List, [], ◌∷◌, ◌++◌, append_assoc, append-nil}
use mathlib.Core.Path.{◌≡◌, refl, sym, ◌∙◌}
use Prim.Native.Nat.{ℕ, ◌+◌, ◌*◌, ◌/◌, ◌%◌, ◌<◌, ◌≤◌}
use native.Mathlib.Nat.{div-div-eq-div-mul}
use native.Mathlib.Omega.{arith}
use lib.ListN.{length, get_or}
use Rattle.bits.proofs.Numbers.{length-bits, msb_split}
use Rattle.bits.proofs.Parts.{field_more, byte_get}
use Rattle.bits.proofs.Copying.{bits-splice}
use Rattle.wire.proofs.LittleLaws.{Bytes, length-little}
use Rattle.bits.specs.Bits.{msb, bits, field}
use Rattle.wire.proofs.Stores.{four_bytes as bytes-of-word, little_4, apart_by}
use Rattle.wire.specs.Splice.{splice}
use Rattle.wire.specs.Little.{little, number}

-- ---- reading

module _ (s : List ℕ) (at : ℕ) (room : at + 4 ≤ length s) where
  -- the byte k places on
  byte : (k p x : ℕ) → k < 4 → 8 * (at + k) ≡ p → x ≡ get_or s (at + k) 0 → x < 256 → field (bits s) p 8 ≡ x
  byte k p x h e g b = rw e at (byte_get s (at + k) (omega arith) (omega arith)) ∙ sym g

  four_bytes : (a b c d : ℕ) → a ≡ get_or s at 0 → a < 256 → b ≡ get_or s (at + 1) 0 → b < 256 → c ≡ get_or s (at + 2) 0 → c < 256 → d ≡ get_or s (at + 3) 0 → d < 256
      → a * 16777216 + b * 65536 + c * 256 + d ≡ field (bits s) (8 * at) 32
  four_bytes a b c d ea la eb lb ec lc ed ld =
      let n = length-bits s in
      let p : ℕ = 8 * at in
      let fa : field (bits s) p 8 ≡ a = byte_get s at (omega arith) (omega arith) ∙ sym ea in
      let fb : field (bits s) (p + 8) 8 ≡ b = byte 1 (p + 8) b (omega arith) (omega arith) eb lb in
      let fc : field (bits s) (p + 8 + 8) 8 ≡ c = byte 2 (p + 8 + 8) c (omega arith) (omega arith) ec lc in
      let fd : field (bits s) (p + 8 + 8 + 8) 8 ≡ d = byte 3 (p + 8 + 8 + 8) d (omega arith) (omega arith) ed ld in
      sym (field_more (bits s) p 8 24 (omega arith) ∙ rw (fa, field_more (bits s) (p + 8) 8 16 (omega arith), fb, field_more (bits s) (p + 8 + 8) 8 8 (omega arith), fc, fd) (omega arith))

  pub word_turned : Bytes s → (w r : ℕ) → w ≡ number s at 4 → r ≡ w % 256 * 16777216 + w / 256 % 256 * 65536 + w / 65536 % 256 * 256 + w / 16777216 % 256 → r ≡ field (bits s) (8 * at) 32
  word_turned h w r e f =
      let a : ℕ = get_or s at 0 in
      let b : ℕ = get_or s (at + 1) 0 in
      let c : ℕ = get_or s (at + 2) 0 in
      let d : ℕ = get_or s (at + 3) 0 in
      let m = apart_by w a b c d (h at) (h (at + 1)) (h (at + 2)) (e ∙ bytes-of-word s at) in
      let top : d % 256 ≡ d = omega (arith, h (at + 3)) in
      f
      ∙ rw (m.first, m.second, m.third, m.fourth, top)
      (four_bytes a b c d refl (h at) refl (h (at + 1)) refl (h (at + 2)) refl (h (at + 3)))

-- ---- storing

msb_32 : (v : ℕ) → msb 32 v ≡ ((msb 8 (v / 16777216) ++ msb 8 (v / 65536 % 256)) ++ msb 8 (v / 256 % 256)) ++ msb 8 (v % 256)
msb_32 v = rw (msb_split 24 8 v, msb_split 16 8 (v / 256), msb_split 8 8 (v / 256 / 256), div-div-eq-div-mul v 256 256, div-div-eq-div-mul v 65536 256)

pub turned_put : (s t : List ℕ) (at v w : ℕ) → at + 4 ≤ length s → v < 4294967296
    → w ≡ v % 256 * 16777216 + v / 256 % 256 * 65536 + v / 65536 % 256 * 256 + v / 16777216 % 256 → t ≡ splice s at (little 4 w)
    → bits t ≡ splice (bits s) (8 * at) (msb 32 v)
unfolding bits
turned_put s t at v w room hv e f =
    let a : ℕ = v / 16777216 in
    let b : ℕ = v / 65536 % 256 in
    let c : ℕ = v / 256 % 256 in
    let d : ℕ = v % 256 in
    let m = apart_by w a b c d (omega arith) (omega arith) (omega arith) (omega arith) in
    let low : d % 256 ≡ d = omega arith in
    let k : little 4 w ≡ a ∷ b ∷ c ∷ d ∷ [] = rw (little_4 w, m.first, m.second, m.third, m.fourth, low) in
    let n : at + length (little 4 w) ≤ length s = omega (arith, length-little 4 w) in
    rw (f, bits-splice s at (little 4 w) n, k, msb_32 v, append-nil) (simp append_assoc)
