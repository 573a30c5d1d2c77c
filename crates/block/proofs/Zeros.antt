-- The laws of bits that are all zero, by fields and by bytes. Assumes nothing.
use mathlib.Core.Bool.{Bool, true, ◌&&◌, and-true, and_assoc, and-eq-true_iff}
use mathlib.Core.List.{List, [], ◌∷◌, ◌++◌, append_assoc}
use mathlib.Core.Path.{◌≡◌, refl, sym, ap, ◌∙◌}
use Prim.Native.Nat.{ℕ, zero, suc, ◌+◌, ◌*◌, ◌≤◌, ◌<◌, max}
use native.Mathlib.Numerals.{add-one}
use native.Mathlib.Omega.{arith}
use lib.Dec.{eqb}
use lib.ListN.{length, take, drop, get_or, replicate, take-append-drop, length-append, length-drop}
use lib.Seq.{take_all, take-suc, drop-drop, drop_at, length-take-le}
use borrow.Author.Tests.{ne_eqb, eqb-true}
use Rattle.bits.proofs.Copying.{bits-drop}
use Rattle.bits.proofs.Numbers.{num-msb}
use Rattle.wire.proofs.LittleLaws.{Bytes, bytes-part}
use Rattle.bits.specs.Bits.{msb, bits, num_from, num, field}
use Rattle.block.specs.Block.{all_zero}
use Rattle.wire.specs.Splice.{splice}

pub zero_append : (xs ys : List ℕ) → all_zero (xs ++ ys) ≡ (all_zero xs && all_zero ys)
unfolding all_zero
zero_append [] ys = refl
zero_append (x ∷ xs) ys = ap (λ (b : Bool). eqb x 0 && b) (zero_append xs ys) ∙ sym (and_assoc (eqb x 0) (all_zero xs) (all_zero ys))

-- bits that say 0 are zeros
double : (a b : ℕ) → eqb (a * 2 + b) 0 ≡ (eqb a 0 && eqb b 0)
double zero b =
    let e : zero * 2 + b ≡ b = omega arith in
    ap (λ (n : ℕ). eqb n 0) e
double (suc a) b = ne_eqb (suc a * 2 + b) 0 (λ e. omega arith) ∙ sym (ap (λ (x : Bool). x && eqb b 0) (ne_eqb (suc a) 0 (λ e. omega arith)))

zero_from : (a : ℕ) (bs : List ℕ) → eqb (num_from a bs) 0 ≡ (eqb a 0 && all_zero bs)
unfolding num_from all_zero
zero_from a [] = sym (and-true (eqb a 0))
zero_from a (b ∷ bs) =
    zero_from (a * 2 + b) bs ∙ ap (λ (x : Bool). x && all_zero bs) (double a b) ∙ and_assoc (eqb a 0) (eqb b 0) (all_zero bs)

zero_num : (bs : List ℕ) → eqb (num bs) 0 ≡ all_zero bs
unfolding num
zero_num bs = zero_from 0 bs

-- a field, and what comes after it
pub zero_field : (bs : List ℕ) (at w : ℕ) {n : ℕ} → n ≡ field bs at w → all_zero (drop at bs) ≡ (eqb n 0 && all_zero (drop (at + w) bs))
unfolding field
zero_field bs at w {n} e =
    ap all_zero (sym (take-append-drop w (drop at bs)))
    ∙ zero_append (take w (drop at bs)) (drop w (drop at bs))
    ∙ ap (λ (x : Bool). x && all_zero (drop w (drop at bs))) (sym (ap (λ (k : ℕ). eqb k 0) e ∙ zero_num (take w (drop at bs))))
    ∙ ap (λ (l : List ℕ). eqb n 0 && all_zero l) (drop-drop w at bs)

-- bytes are zero where their bits are
zero_bytes : (s : List ℕ) → Bytes s → all_zero s ≡ all_zero (bits s)
unfolding bits all_zero
zero_bytes [] b = refl
zero_bytes (x ∷ s) b =
    ap (λ (z : Bool). eqb x 0 && z) (zero_bytes s (λ k. b (suc k)))
    ∙ ap (λ (z : Bool). z && all_zero (bits s)) (sym (sym (zero_num (msb 8 x)) ∙ ap (λ (n : ℕ). eqb n 0) (num-msb 8 x (b 0))))
    ∙ sym (zero_append (msb 8 x) (bits s))

-- the bytes from byte first on
pub zero_part : (s : List ℕ) (first n : ℕ) → Bytes s → length s ≤ first + n → all_zero (take n (drop first s)) ≡ all_zero (drop (8 * first) (bits s))
zero_part s first n b h =
    zero_bytes (take n (drop first s)) (bytes-part s first n b)
    ∙ ap (λ (l : List ℕ). all_zero (bits l)) (take_all n (drop first s) (omega (arith, length-drop first s)))
    ∙ ap all_zero (sym (bits-drop s first))

-- the greatest of them so far, with one more
most_zero : (m b : ℕ) → eqb (max m b) 0 ≡ (eqb m 0 && eqb b 0)
most_zero zero b =
    let e : max 0 b ≡ b = omega arith in
    ap (λ (n : ℕ). eqb n 0) e
most_zero (suc m) b = rw (ne_eqb (max (suc m) b) 0 (λ e. omega arith), ne_eqb (suc m) 0 (λ e. omega arith))

pub most_next : (s : List ℕ) (i m : ℕ) → i < length s → eqb m 0 ≡ all_zero (take i s) → eqb (max m (get_or s i 0)) 0 ≡ all_zero (take (i + 1) s)
unfolding all_zero
most_next s i m h e =
    most_zero m (get_or s i 0)
    ∙ ap (λ (z : Bool). z && eqb (get_or s i 0) 0) e
    ∙ ap (λ (z : Bool). all_zero (take i s) && z) (sym (and-true (eqb (get_or s i 0) 0)))
    ∙ sym (zero_append (take i s) (get_or s i 0 ∷ []))
    ∙ ap all_zero (sym (take-suc s i 0 h))
    ∙ ap (λ (k : ℕ). all_zero (take k s)) (sym (add-one i))

zero_drop : (n : ℕ) (bs : List ℕ) → all_zero bs ≡ true → all_zero (drop n bs) ≡ true
unfolding all_zero
zero_drop zero bs e = e
zero_drop (suc n) [] e = e
zero_drop (suc n) (b ∷ bs) e = zero_drop n bs ((and-eq-true_iff (eqb b 0) (all_zero bs)).0 e).1

-- what is behind bits that were put from bit 8 on
pub zero_behind : (l xs : List ℕ) → 8 ≤ length l → all_zero (drop 8 l) ≡ true → all_zero (drop (8 + length xs) (splice l 8 xs)) ≡ true
unfolding splice
zero_behind l xs h e =
    let n : length (take 8 l ++ xs) ≡ 8 + length xs = omega (arith, length-append (take 8 l) xs, length-take-le 8 l h) in
    ap all_zero
    (ap (drop (8 + length xs)) (sym (append_assoc (take 8 l) xs (drop (8 + length xs) l)))
    ∙ drop_at (take 8 l ++ xs) (drop (8 + length xs) l) (8 + length xs) n
    ∙ sym (drop-drop (length xs) 8 l))
    ∙ zero_drop (length xs) (drop 8 l) e

-- a field of zeros says 0
pub zero_said : (bs : List ℕ) (at w : ℕ) → all_zero (drop at bs) ≡ true → field bs at w ≡ 0
zero_said bs at w e = eqb-true (field bs at w) 0 ((and-eq-true_iff _ _).0 (sym (zero_field bs at w refl) ∙ e)).0

pub zeros : (n : ℕ) → all_zero (replicate n 0) ≡ true
unfolding all_zero
zeros zero = refl
zeros (suc n) = zeros n

pub zeros_are : (l : List ℕ) → all_zero l ≡ true → l ≡ replicate (length l) 0
unfolding all_zero
zeros_are [] e = refl
zeros_are (b ∷ bs) e =
    let k = (and-eq-true_iff (eqb b 0) (all_zero bs)).0 e in
    rw (eqb-true b 0 k.0) (ap (λ (l : List ℕ). 0 ∷ l) (zeros_are bs k.1))
