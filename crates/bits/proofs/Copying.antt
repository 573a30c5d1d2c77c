-- Bytes copied to and from packed bits: the turns of the loops, and whole bytes. Assumes nothing.
use mathlib.Core.List.{List, [], ◌∷◌, ◌++◌}
use mathlib.Core.Path.{◌≡◌, refl, sym, ap, ◌∙◌}
use Prim.Native.Nat.{ℕ, zero, suc, ◌+◌, ◌-◌, ◌*◌, ◌/◌, ◌%◌, ◌≤◌, ◌<◌}
use native.Mathlib.Nat.{not-suc-le-zero, le_of_suc-le-suc}
use native.Mathlib.Numerals.{add-one}
use native.Mathlib.Omega.{arith}
use lib.ListN.{length, take, drop, get_or, set, length-drop, drop_of_length-le}
use lib.Seq.{drop-cons, drop-drop, set_split, take_at, drop_at, length-take-le, get_or-drop}
use Rattle.bits.proofs.Numbers.{length-msb, length-bits, length-packed, bits-append, num-msb}
use Rattle.bits.proofs.Packing.{splice-field}
use Rattle.wire.proofs.LittleLaws.{Bytes}
use Rattle.bits.specs.Bits.{msb, bits, field, packed}
use Rattle.wire.proofs.SpliceLaws.{splice_then, splice_mid, splice-whole, parts, part_length}
use Rattle.wire.specs.Splice.{splice}

bytes-step : (v : List ℕ) (i : ℕ) → i < length v → bits (drop i v) ≡ msb 8 (get_or v i 0) ++ bits (drop (i + 1) v)
unfolding bits
bytes-step v i h = rw (drop-cons v i 0 h, add-one i)

pub put_turn : (l v : List ℕ) (at i : ℕ) → i < length v → at + 8 * length v ≤ length l
    → splice (splice l (at + 8 * i) (msb 8 (get_or v i 0))) (at + 8 * (i + 1)) (bits (drop (i + 1) v)) ≡ splice l (at + 8 * i) (bits (drop i v))
put_turn l v at i h k =
    let e : at + 8 * (i + 1) ≡ at + 8 * i + 8 = omega arith in
    rw (e, bytes-step v i h) (splice-field l (at + 8 * i) 8 (get_or v i 0) (bits (drop (i + 1) v)) (omega (arith, length-bits (drop (i + 1) v), length-drop (i + 1) v)))

packed_step : (bs : List ℕ) (a n : ℕ) → 0 < n → packed n (drop a bs) ≡ field bs a 8 ∷ packed (n - 1) (drop (a + 8) bs)
unfolding packed field
packed_step bs a zero h = absurd (not-suc-le-zero h)
packed_step bs a (suc n) h =
    let e : suc n - 1 ≡ n = omega arith in
    rw (e, drop-drop 8 a bs)

set-splice : (l : List ℕ) (q x : ℕ) → q < length l → set l q x ≡ splice l q (x ∷ [])
unfolding splice
set-splice l q x h = set_split l q x h ∙ ap (λ (k : ℕ). take q l ++ (x ∷ drop k l)) (sym (add-one q))

pub get_turn : (l bs : List ℕ) (at i n : ℕ) → i < n → n ≤ length l
    → splice (set l i (field bs (at + 8 * i) 8)) (i + 1) (packed (n - (i + 1)) (drop (at + 8 * (i + 1)) bs)) ≡ splice l i (packed (n - i) (drop (at + 8 * i) bs))
get_turn l bs at i n h g =
    let a : ℕ = at + 8 * i in
    let e : at + 8 * (i + 1) ≡ a + 8 = omega arith in
    let m : n - (i + 1) ≡ n - i - 1 = omega arith in
    rw (e, m)
    (ap (λ (x : List ℕ). splice x (i + 1) (packed (n - i - 1) (drop (a + 8) bs))) (set-splice l i (field bs a 8) (omega arith))
    ∙ splice_then l i (field bs a 8 ∷ []) (packed (n - i - 1) (drop (a + 8) bs)) (omega (arith, length-packed (n - i - 1) (drop (a + 8) bs)))
    ∙ ap (splice l i) (sym (packed_step bs a (n - i) (omega arith))))

-- the whole part is still to be got
pub get_all : (l bs : List ℕ) (to at n : ℕ) → to + n ≤ length l → splice (take (to + n - to) (drop to l)) 0 (packed (n - 0) (drop (at + 8 * 0) bs)) ≡ packed n (drop at bs)
get_all l bs to at n h =
    let a : to + n - to ≡ n = omega arith in
    let b : n - 0 ≡ n = omega arith in
    let e : at + 8 * 0 ≡ at = omega arith in
    rw (a, b, e) (splice-whole (take n (drop to l)) (packed n (drop at bs)) (length-packed n (drop at bs) ∙ sym (part_length l to n h)))

-- ---- at a whole byte's first bit, bytes are copied

pub bits-drop : (s : List ℕ) (i : ℕ) → drop (8 * i) (bits s) ≡ bits (drop i s)
unfolding bits
bits-drop s zero = refl
bits-drop [] (suc i) = drop_of_length-le [] {i = 8 * suc i} (omega arith)
bits-drop (x ∷ s) (suc i) =
    let e : 8 * suc i ≡ 8 + 8 * i = omega arith in
    rw e (sym (drop-drop (8 * i) 8 (msb 8 x ++ bits s)) ∙ ap (drop (8 * i)) (drop_at (msb 8 x) (bits s) 8 (length-msb 8 x)) ∙ bits-drop s i)

pub bits-splice : (s : List ℕ) (k : ℕ) (xs : List ℕ) → k + length xs ≤ length s → bits (splice s k xs) ≡ splice (bits s) (8 * k) (bits xs)
unfolding splice
bits-splice s k xs h =
    let own : List ℕ = take (length xs) (drop k s) in
    let rest : List ℕ = drop (k + length xs) s in
    let three : (l : List ℕ) → bits (take k s ++ (l ++ rest)) ≡ bits (take k s) ++ (bits l ++ bits rest) =
    λ l. bits-append (take k s) (l ++ rest) ∙ ap (λ (r : List ℕ). bits (take k s) ++ r) (bits-append l rest) in
    let n : length (bits (take k s)) ≡ 8 * k = omega (arith, length-bits (take k s), length-take-le k s (omega arith)) in
    let m : length (bits own) ≡ length (bits xs) = omega (arith, length-bits own, length-bits xs, part_length s k (length xs) h) in
    three xs
    ∙ sym (splice_mid (bits (take k s)) (bits own) (bits xs) (bits rest) (8 * k) n m)
    ∙ ap (λ (l : List ℕ). splice l (8 * k) (bits xs)) (sym (ap bits (parts s k (length xs)) ∙ three own))

packed_front : (n : ℕ) (s : List ℕ) → Bytes s → n ≤ length s → packed n (bits s) ≡ take n s
unfolding packed bits
packed_front zero s b h = refl
packed_front (suc n) [] b h = absurd (not-suc-le-zero h)
packed_front (suc n) (x ∷ s) b h =
    rw (take_at (msb 8 x) (bits s) 8 (length-msb 8 x), drop_at (msb 8 x) (bits s) 8 (length-msb 8 x), num-msb 8 x (b 0), packed_front n s (λ k. b (suc k)) (le_of_suc-le-suc h))

pub put_whole_bytes : (s : List ℕ) (at n : ℕ) (xs : List ℕ) → at % 8 ≡ 0 → length xs ≡ n → at + 8 * n ≤ 8 * length s → bits (splice s (at / 8) xs) ≡ splice (bits s) at (bits xs)
put_whole_bytes s at n xs z e h =
    let w : 8 * (at / 8) ≡ at = omega arith in
    bits-splice s (at / 8) xs (omega arith) ∙ ap (λ (k : ℕ). splice (bits s) k (bits xs)) w

pub get_whole_bytes : (s : List ℕ) (at n : ℕ) → Bytes s → at % 8 ≡ 0 → at + 8 * n ≤ 8 * length s → take (at / 8 + n - at / 8) (drop (at / 8) s) ≡ packed n (drop at (bits s))
get_whole_bytes s at n b z h =
    let w : 8 * (at / 8) ≡ at = omega arith in
    let m : at / 8 + n - at / 8 ≡ n = omega arith in
    rw m (sym (packed_front n (drop (at / 8) s) (λ k. rw get_or-drop (b (at / 8 + k))) (omega (arith, length-drop (at / 8) s))))
    ∙ ap (packed n) (sym (bits-drop s (at / 8)) ∙ ap (λ (k : ℕ). drop k (bits s)) w)
