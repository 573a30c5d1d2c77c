-- Bytes stored and read with no loop: one byte, two and four. Assumes nothing.
use mathlib.Core.Path.{◌≡◌, refl, sym, ◌∙◌}
use mathlib.Core.List.{List, [], ◌∷◌, append_assoc}
use Prim.Native.Nat.{ℕ, suc, ◌+◌, ◌-◌, ◌*◌, ◌/◌, ◌%◌, ◌<◌, ◌≤◌}
use native.Mathlib.Nat.{div-div-eq-div-mul}
use native.Mathlib.Omega.{arith}
use lib.ListN.{length, take, drop, get_or, set}
use lib.Seq.{sets, sets-eq}
use borrow.Rule.Slice.PartMut.{put_mid}
use Rattle.std.specs.Int.{w16, w32, to_le_bytes}
use Rattle.wire.specs.Splice.{splice}
use Rattle.wire.specs.Little.{little, number}
use Rattle.wire.proofs.SpliceLaws.{splice-lent}
use Rattle.wire.proofs.LittleLaws.{Bytes, length-little, number_none, number_suc}

-- stores one behind the other are a splice
stores : (l : List ℕ) (at : ℕ) (vs : List ℕ) → at + length vs ≤ length l → sets l at vs ≡ splice l at vs
unfolding splice
stores l at vs h = sets-eq vs l at h ∙ append_assoc (take at l) vs (drop (at + length vs) l)

pub one_store : (l : List ℕ) (at b : ℕ) → at + 1 ≤ length l → b < 256 → set l at b ≡ splice l at (little 1 b)
unfolding little
one_store l at b h k =
    let e : b % 256 ≡ b = omega arith in
    rw e (stores l at (b ∷ []) h)

pub little_4 : (v : ℕ) → little 4 v ≡ v % 256 ∷ v / 256 % 256 ∷ v / 65536 % 256 ∷ v / 16777216 % 256 ∷ []
unfolding little
little_4 v = rw (div-div-eq-div-mul v 256 256, div-div-eq-div-mul v 65536 256)

pub bytes-2 : (v : ℕ) → to_le_bytes w16 v ≡ little 2 v
unfolding little
bytes-2 v = refl

pub bytes-4 : (v : ℕ) → to_le_bytes w32 v ≡ little 4 v
bytes-4 v = sym (little_4 v)

-- the bytes of a number, copied to a part that is as long
pub number-lent : (l : List ℕ) (at n v : ℕ) {vs : List ℕ} → vs ≡ little n v → put_mid at (at + n - at) l vs ≡ splice l at (little n v)
number-lent l at n v e =
    rw e (splice-lent l at (at + n) (little n v) (omega (arith, length-little n v)))

pub one_byte : (l : List ℕ) (at : ℕ) → number l at 1 ≡ get_or l at 0
one_byte l at = number_suc l at 0 ∙ rw number_none (omega arith)

pub two_bytes : (l : List ℕ) (at : ℕ) → number l at 2 ≡ get_or l at 0 + get_or l (at + 1) 0 * 256
two_bytes l at =
    let e : at + 1 ≡ suc at = omega arith in
    rw (e, number_suc l at 1, number_suc l (suc at) 0, number_none) (omega arith)

pub four_bytes : (l : List ℕ) (at : ℕ) → number l at 4 ≡ get_or l at 0 + get_or l (at + 1) 0 * 256 + get_or l (at + 2) 0 * 65536 + get_or l (at + 3) 0 * 16777216
four_bytes l at =
    let e1 : at + 1 ≡ suc at = omega arith in
    let e2 : at + 2 ≡ suc (suc at) = omega arith in
    let e3 : at + 3 ≡ suc (suc (suc at)) = omega arith in
    rw (e1, e2, e3, number_suc l at 3, number_suc l (suc at) 2, number_suc l (suc (suc at)) 1, number_suc l (suc (suc (suc at))) 0, number_none) (omega arith)

-- a word and its four bytes
pub record MadeOf (w a b c d : ℕ) : Type 0 where
  pub first : w % 256 ≡ a
  pub second : w / 256 % 256 ≡ b
  pub third : w / 65536 % 256 ≡ c
  pub fourth : w / 16777216 ≡ d

pub apart_by : (w a b c d : ℕ) → a < 256 → b < 256 → c < 256 → w ≡ a + b * 256 + c * 65536 + d * 16777216 → MadeOf w a b c d
apart_by w a b c d ha hb hc e = record { first = omega arith; second = omega arith; third = omega arith; fourth = omega arith }

pub word_apart : (l : List ℕ) (at : ℕ) {w : ℕ} → Bytes l → w ≡ number l at 4 → MadeOf w (number l at 1) (number l (at + 1) 1) (number l (at + 2) 1) (number l (at + 3) 1)
word_apart l at {w} h e = rw (one_byte l at, one_byte l (at + 1), one_byte l (at + 2), one_byte l (at + 3)) (apart_by w _ _ _ _ (h at) (h (at + 1)) (h (at + 2)) (e ∙ four_bytes l at))
