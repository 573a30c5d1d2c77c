-- The cyclic image: four numbers put one behind the other are the ten bytes of the mapping. Assumes nothing.
use mathlib.Core.Path.{◌≡◌, sym, ap, ◌∙◌}
use mathlib.Core.List.{List, [], ◌∷◌, ◌++◌, append_assoc}
use Prim.Native.Nat.{ℕ, ◌+◌, ◌*◌, ◌^◌, ◌<◌, ◌≤◌}
use native.Mathlib.Omega.{arith}
use lib.ListN.{length, length-append}
use Rattle.wire.specs.Splice.{splice}
use Rattle.wire.specs.Little.{little, number, put_number}
use Rattle.wire.specs.Flags.{is_set, bit}
use Rattle.wire.proofs.SpliceLaws.{splice_behind}
use Rattle.wire.proofs.LittleLaws.{Bytes, length-little, little-append, number_lt}
use Rattle.wire.proofs.FlagLaws.{bit_lt}
use Rattle.table.specs.Places.{input_value, reading_valid, overrange, underrange, summary_byte, trip_outputs}
use Rattle.sample.specs.Image.{mapped, in_order, mapping, image_of}

-- 8, 32, 8 and 32 bits are 80
eighty : (a b c d : ℕ) → a < 2 ^ 8 → b < 2 ^ 32 → c < 2 ^ 8 → ((little 1 a ++ little 4 b) ++ little 1 c) ++ little 4 d ≡ little 10 (a + 2 ^ 8 * (b + 2 ^ 32 * (c + 2 ^ 8 * d)))
eighty a b c d ha hb hc =
    append_assoc (little 1 a ++ little 4 b) (little 1 c) (little 4 d)
    ∙ append_assoc (little 1 a) (little 4 b) (little 1 c ++ little 4 d)
    ∙ ap (λ (r : List ℕ). little 1 a ++ (little 4 b ++ r)) (little-append 1 4 c d hc)
    ∙ ap (λ (r : List ℕ). little 1 a ++ r) (little-append 4 5 b (c + 2 ^ 8 * d) hb)
    ∙ little-append 1 9 a (b + 2 ^ 32 * (c + 2 ^ 8 * d)) ha

put_four : (o : List ℕ) (a b c d : ℕ) → 10 ≤ length o → a < 2 ^ 8 → b < 2 ^ 32 → c < 2 ^ 8 → put_number (put_number (put_number (put_number o 0 1 a) 1 4 b) 5 1 c) 6 4 d ≡ splice o 0 (little 10 (a + 2 ^ 8 * (b + 2 ^ 32 * (c + 2 ^ 8 * d))))
put_four o a b c d room ha hb hc =
    let x : List ℕ = little 1 a in
    let y : List ℕ = x ++ little 4 b in
    let z : List ℕ = y ++ little 1 c in
    let ex : length x ≡ 1 = length-little 1 a in
    let ey : length y ≡ 5 = simp (length-append, length-little) in
    let ez : length z ≡ 6 = simp (length-append, length-little) in
    ap (λ (r : List ℕ). put_number (put_number r 5 1 c) 6 4 d) (splice_behind o 0 x (little 4 b) 1 (omega arith) (omega (arith, length-little 4 b)))
    ∙ ap (λ (r : List ℕ). put_number r 6 4 d) (splice_behind o 0 y (little 1 c) 5 (omega arith) (omega (arith, length-little 1 c)))
    ∙ splice_behind o 0 z (little 4 d) 6 (omega arith) (omega (arith, length-little 4 d))
    ∙ ap (splice o 0) (eighty a b c d ha hb hc)

-- seven entries in their order, the three flags in one byte
in_bytes : (v o u b c d : ℕ) → in_order (mapped 1 v ∷ mapped 1 o ∷ mapped 1 u ∷ mapped 5 0 ∷ mapped 32 b ∷ mapped 8 c ∷ mapped 32 d ∷ []) ≡ v + o * 2 + u * 4 + 2 ^ 8 * (b + 2 ^ 32 * (c + 2 ^ 8 * d))
unfolding in_order
in_bytes v o u b c d = omega arith

abbrev pub flag : List ℕ → ℕ → ℕ
flag l at = bit (is_set l at)

pub image_put : (l o : List ℕ) → Bytes l → 10 ≤ length o → put_number (put_number (put_number (put_number o 0 1 (flag l reading_valid + flag l overrange * 2 + flag l underrange * 4)) 1 4 (number l input_value 4)) 5 1 (number l summary_byte 1)) 6 4 (number l trip_outputs 4) ≡ splice o 0 (image_of l)
unfolding image_of mapping
image_put l o bytes room =
    put_four o (flag l reading_valid + flag l overrange * 2 + flag l underrange * 4) (number l input_value 4) (number l summary_byte 1) (number l trip_outputs 4) room
    (omega (arith, bit_lt (is_set l reading_valid), bit_lt (is_set l overrange), bit_lt (is_set l underrange)))
    (number_lt l input_value 4 bytes)
    (number_lt l summary_byte 1 bytes)
    ∙ ap (λ (n : ℕ). splice o 0 (little 10 n)) (sym (in_bytes (flag l reading_valid) (flag l overrange) (flag l underrange) (number l input_value 4) (number l summary_byte 1) (number l trip_outputs 4)))
