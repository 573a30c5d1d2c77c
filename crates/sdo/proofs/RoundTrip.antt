-- A client reads in the eight bytes what the board meant by them.
use Prim.Native.Nat.{ℕ, ◌+◌, ◌-◌, ◌*◌, ◌/◌, ◌%◌, ◌≤◌, ◌<◌}
use native.Mathlib.Omega.{arith}
use mathlib.Core.Path.{◌≡◌, refl, ap, ◌∙◌}
use mathlib.Core.Logic.{◌⊎◌, inl, inr}
use mathlib.Core.Bool.{Bool, true, false}
use mathlib.Core.List.{List, [], ◌∷◌, ◌++◌}
use lib.Dec.{eqb}
use lib.ListN.{length, take, get_or, replicate, length-append, length-replicate}
use lib.Seq.{take_at}
use Rattle.wire.specs.Little.{little, from_little, number}
use Rattle.wire.proofs.LittleLaws.{byte_split, from_little-little}
use Rattle.order.specs.Talk.{Answer, opened, part_given, write_opened, part_taken, refused, dropped, no_transfer, silent}
use Rattle.order.specs.Promise.{is_abort}
use Rattle.sdo.specs.declared.Key.{Key}
use Rattle.wire.specs.Flags.{bit}
use Rattle.sdo.specs.Eight.{has, transfer_code, answer_of, tell_of, Carried}

-- a number of four bytes is read back from behind the key
number-back : (a b c d n : ℕ) → n < 0x1_0000_0000 → number (a ∷ b ∷ c ∷ d ∷ little 4 n) 4 4 ≡ n
unfolding number little from_little
number-back a b c d n h = from_little-little 4 n h

round_opened : (k : Key) (n : ℕ) (bytes : List ℕ) → n ≡ length bytes → 1 ≤ length bytes → length bytes ≤ 4 → tell_of (answer_of (opened k n bytes true)) ≡ opened k n bytes true
unfolding tell_of answer_of
round_opened k n [] e p q = absurd (omega arith)
round_opened k n (a ∷ []) e p q = rw (e, byte_split k.index)
round_opened k n (a ∷ b ∷ []) e p q = rw (e, byte_split k.index)
round_opened k n (a ∷ b ∷ c ∷ []) e p q = rw (e, byte_split k.index)
round_opened k n (a ∷ b ∷ c ∷ d ∷ []) e p q = rw (e, byte_split k.index)
round_opened k n (a ∷ b ∷ c ∷ d ∷ x ∷ bytes) e p q = absurd (omega arith)

-- the first byte of a part: its class, its toggle, its unused bytes, its last mark
round_by : (t last : Bool) (b : ℕ) (bytes : List ℕ) (rest : List ℕ) → b / 32 ≡ 0 → has 16 b ≡ t → b / 2 % 8 ≡ 7 - length bytes → has 1 b ≡ last → take (7 - (7 - length bytes)) rest ≡ bytes
    → tell_of (b ∷ rest) ≡ part_given t bytes last
unfolding tell_of
round_by t last b bytes rest e₀ e₁ e₂ e₃ e₄ = rw (e₀, e₁, e₂, e₄) (ap (part_given t bytes) e₃)

bit_le : (t : Bool) → bit t ≤ 1
bit_le true = omega arith
bit_le false = omega arith

bit-set : (t : Bool) → eqb (bit t) 1 ≡ t
bit-set true = refl
bit-set false = refl

has_is : (w b : ℕ) (t : Bool) → b / w % 2 ≡ bit t → has w b ≡ t
has_is w b t e = ap (λ (n : ℕ). eqb n 1) e ∙ bit-set t

round_part : (t last : Bool) (bytes : List ℕ) → length bytes ≤ 7 → tell_of (answer_of (part_given t bytes last)) ≡ part_given t bytes last
unfolding answer_of
round_part t last bytes h =
    let b : ℕ = 16 * bit t + 2 * (7 - length bytes) + bit last in
    let h₁ : bit t ≤ 1 = bit_le t in
    let h₂ : bit last ≤ 1 = bit_le last in
    round_by t last b bytes (bytes ++ replicate (7 - length bytes) 0) (omega arith) (has_is 16 b t (omega arith)) (omega arith) (has_is 1 b last (omega arith))
    (take_at bytes (replicate (7 - length bytes) 0) (7 - (7 - length bytes)) (omega arith))

-- THEOREM
pub round : (t : Answer Key) → Carried t → tell_of (answer_of t) ≡ t
unfolding tell_of answer_of
round (opened k n bytes true) h = round_opened k n bytes h.0 h.1 h.2
round (opened k n bytes false) h = rw (byte_split k.index, number-back 0x41 (k.index % 256) (k.index / 256) k.sub n h.1, h.0)
round (part_given t bytes last) h = round_part t last bytes h
round (write_opened k) h = rw (byte_split k.index)
round (part_taken true) h = refl
round (part_taken false) h = refl
round (refused k c) h =
    rw (byte_split k.index, number-back 0x80 (k.index % 256) (k.index / 256) k.sub c h.fits, h.not_transfer, h.ends)
round (dropped k c) h =
    rw (byte_split k.index, number-back 0x80 (k.index % 256) (k.index / 256) k.sub c h.fits, h.not_transfer, h.drops)
round no_transfer h = rw (number-back 0x80 0 0 0 transfer_code (omega arith))
round silent h = refl

-- an answer is eight bytes, or none
pub answer-eight : (t : Answer Key) → Carried t → (answer_of t ≡ []) ⊎ (length (answer_of t) ≡ 8)
unfolding answer_of little
answer-eight (opened k n bytes true) h = inr (simp (length-append, length-replicate) (omega (arith, h.2)))
answer-eight (opened k n bytes false) h = inr refl
answer-eight (part_given t bytes last) h = inr (simp (length-append, length-replicate) (omega (arith, h)))
answer-eight (write_opened k) h = inr refl
answer-eight (part_taken t) h = inr refl
answer-eight (refused k c) h = inr refl
answer-eight (dropped k c) h = inr refl
answer-eight no_transfer h = inr refl
answer-eight silent h = inl refl

-- bytes that begin with 80 are an abort's
pub abort_told : (t : Answer Key) → get_or (answer_of t) 0 0 ≡ 0x80 → is_abort t ≡ true
unfolding answer_of is_abort
abort_told (opened k n bytes true) e = absurd (omega (arith, e))
abort_told (opened k n bytes false) e = absurd (omega (arith, e))
abort_told (part_given true bytes true) e = absurd (omega (arith, e))
abort_told (part_given true bytes false) e = absurd (omega (arith, e))
abort_told (part_given false bytes true) e = absurd (omega (arith, e))
abort_told (part_given false bytes false) e = absurd (omega (arith, e))
abort_told (write_opened k) e = absurd (omega (arith, e))
abort_told (part_taken true) e = absurd (omega (arith, e))
abort_told (part_taken false) e = absurd (omega (arith, e))
abort_told (refused k c) e = refl
abort_told (dropped k c) e = refl
abort_told no_transfer e = refl
abort_told silent e = absurd (omega (arith, e))
