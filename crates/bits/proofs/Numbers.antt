-- The laws of numbers as bits: lengths, a number and its bits there and back, bits that say bytes. Assumes nothing.
use mathlib.Core.List.{List, [], ◌∷◌, ◌++◌, append_assoc, append-nil}
use mathlib.Core.Path.{◌≡◌, refl, sym, ap, ◌∙◌}
use Prim.Native.Nat.{ℕ, zero, suc, ◌+◌, ◌*◌, ◌/◌, ◌%◌, ◌^◌, ◌≤◌, ◌<◌}
use native.Mathlib.Nat.{add-zero, zero-add, add-suc, suc-add, two-pow-succ, pow-zero, pow-suc, mul_assoc, mod-lt, mul-one, add-mul, zero-mul, pow-succ'}
use native.Mathlib.Omega.{arith}
use lib.ListN.{length, take, drop, length-append, length-drop}
use lib.Pow.{pow_pos, split}
use lib.Seq.{take_at, drop_at, length-take-le, take-add}
use Rattle.wire.proofs.LittleLaws.{Bytes}
use Rattle.bits.specs.Bits.{msb, bits, num_from, num, packed, Small}

-- ---- lengths

pub length-msb : (w v : ℕ) → length (msb w v) ≡ w
unfolding msb
length-msb zero v = refl
length-msb (suc w) v = omega (arith, length-append (msb w (v / 2)) (v % 2 ∷ []), length-msb w (v / 2))

pub length-bits : (xs : List ℕ) → length (bits xs) ≡ 8 * length xs
unfolding bits
length-bits [] = refl
length-bits (x ∷ xs) = omega (arith, length-append (msb 8 x) (bits xs), length-msb 8 x, length-bits xs)

pub bits-append : (xs ys : List ℕ) → bits (xs ++ ys) ≡ bits xs ++ bits ys
unfolding bits
bits-append [] ys = refl
bits-append (x ∷ xs) ys = ap (λ (l : List ℕ). msb 8 x ++ l) (bits-append xs ys) ∙ sym (append_assoc (msb 8 x) (bits xs) (bits ys))

-- ---- numbers

pub num-append : (a : ℕ) (xs ys : List ℕ) → num_from a (xs ++ ys) ≡ num_from (num_from a xs) ys
unfolding num_from
num-append a [] ys = refl
num-append a (x ∷ xs) ys = num-append (a * 2 + x) xs ys

pub num_msb_from : (a w v : ℕ) → v < 2 ^ w → num_from a (msb w v) ≡ a * 2 ^ w + v
unfolding msb num_from
num_msb_from a zero v h = omega (arith, pow-zero 2, mul-one a)
num_msb_from a (suc w) v h =
    num-append a (msb w (v / 2)) (v % 2 ∷ [])
    ∙ omega (arith, num_msb_from a w (v / 2) (omega (arith, two-pow-succ w)), pow-suc 2 w, mul_assoc a (2 ^ w) 2, ap (λ (x : ℕ). a * x) (pow-suc 2 w))

pub num-msb : (w v : ℕ) → v < 2 ^ w → num (msb w v) ≡ v
unfolding num
num-msb w v h = omega (arith, num_msb_from 0 w v h)

pub num_shift : (a : ℕ) (xs : List ℕ) → num_from a xs ≡ a * 2 ^ length xs + num_from 0 xs
unfolding num_from
num_shift a [] = omega (arith, pow-zero 2, mul-one a)
num_shift a (x ∷ xs) =
    omega (arith, num_shift (a * 2 + x) xs, num_shift (0 * 2 + x) xs, add-mul (a * 2) x (2 ^ length xs), add-mul (0 * 2) x (2 ^ length xs), mul_assoc a 2 (2 ^ length xs), mul_assoc 0 2 (2 ^ length xs), zero-mul (2 * 2 ^ length xs), ap (λ (y : ℕ). a * y) (pow-succ' 2 (length xs)))

-- ---- a number as bits, in two parts

pub msb_cat : (j k hi lo : ℕ) → lo < 2 ^ k → msb (j + k) (hi * 2 ^ k + lo) ≡ msb j hi ++ msb k lo
unfolding msb
msb_cat j zero hi lo h =
    let d : hi * 2 ^ zero + lo ≡ hi = omega (arith, pow-zero 2, mul-one hi) in
    rw (add-zero j, d) (sym (append-nil (msb j hi)))
msb_cat j (suc k) hi lo h =
    let e : hi * 2 ^ suc k ≡ (hi * 2 ^ k) * 2 = ap (λ (x : ℕ). hi * x) (pow-suc 2 k) ∙ sym (mul_assoc hi (2 ^ k) 2) in
    let d : (hi * 2 ^ suc k + lo) / 2 ≡ hi * 2 ^ k + lo / 2 = omega arith in
    let m : (hi * 2 ^ suc k + lo) % 2 ≡ lo % 2 = omega arith in
    rw (add-suc j k, d, m) (rw (msb_cat j k hi (lo / 2) (omega (arith, two-pow-succ k))) (append_assoc (msb j hi) (msb k (lo / 2)) (lo % 2 ∷ [])))

pub msb_split : (j k v : ℕ) → msb (j + k) v ≡ msb j (v / 2 ^ k) ++ msb k (v % 2 ^ k)
msb_split j k v = ap (λ (x : ℕ). msb (j + k) x) (sym (split v k)) ∙ msb_cat j k (v / 2 ^ k) (v % 2 ^ k) (mod-lt v (pow_pos k))

-- ---- bits are 0 or 1

pub small_append : (xs bs : List ℕ) → Small xs → Small bs → Small (xs ++ bs)
unfolding Small
small_append [] bs h g = g
small_append (a ∷ xs) bs h g = (h.0, small_append xs bs h.1 g)

pub small_msb : (w v : ℕ) → Small (msb w v)
unfolding msb Small
small_msb zero v = tt
small_msb (suc w) v = small_append (msb w (v / 2)) (v % 2 ∷ []) (small_msb w (v / 2)) (omega arith, tt)

pub small_bits : (xs : List ℕ) → Small (bits xs)
unfolding bits Small
small_bits [] = tt
small_bits (x ∷ xs) = small_append (msb 8 x) (bits xs) (small_msb 8 x) (small_bits xs)

pub small_take : (n : ℕ) (bs : List ℕ) → Small bs → Small (take n bs)
unfolding Small
small_take zero bs h = tt
small_take (suc n) [] h = tt
small_take (suc n) (b ∷ bs) h = (h.0, small_take n bs h.1)

pub small_drop : (n : ℕ) (bs : List ℕ) → Small bs → Small (drop n bs)
unfolding Small
small_drop zero bs h = h
small_drop (suc n) [] h = tt
small_drop (suc n) (b ∷ bs) h = small_drop n bs h.1

msb-num_from : (w a : ℕ) (bs : List ℕ) → Small bs → msb (w + length bs) (num_from a bs) ≡ msb w a ++ bs
unfolding msb num_from Small
msb-num_from w a [] h = ap (λ (k : ℕ). msb k a) (add-zero w) ∙ sym (append-nil (msb w a))
msb-num_from w a (b ∷ bs) h =
    let b2 : b < 2 = h.0 in
    let d : (a * 2 + b) / 2 ≡ a = omega arith in
    let m : (a * 2 + b) % 2 ≡ b = omega arith in
    ap (λ (k : ℕ). msb k (num_from (a * 2 + b) bs)) (add-suc w (length bs) ∙ sym (suc-add w (length bs)))
    ∙ msb-num_from (suc w) (a * 2 + b) bs h.1
    ∙ (rw (d, m) (append_assoc (msb w a) (b ∷ []) bs))

pub msb-num : (w : ℕ) (bs : List ℕ) → Small bs → length bs ≡ w → msb w (num bs) ≡ bs
unfolding num msb
msb-num w bs h e = ap (λ (k : ℕ). msb k (num_from 0 bs)) (sym e ∙ sym (zero-add (length bs))) ∙ msb-num_from 0 0 bs h

num_lt_from : (a k : ℕ) (bs : List ℕ) → Small bs → a < 2 ^ k → num_from a bs < 2 ^ (k + length bs)
unfolding num_from Small
num_lt_from a k [] h g = rw (add-zero k) g
num_lt_from a k (b ∷ bs) h g =
    let b2 : b < 2 = h.0 in
    rw (add-suc k (length bs), ← suc-add k (length bs)) (num_lt_from (a * 2 + b) (suc k) bs h.1 (omega (arith, two-pow-succ k)))

pub num_lt : (bs : List ℕ) → Small bs → num bs < 2 ^ length bs
unfolding num
num_lt bs h = rw (zero-add (length bs)) at (num_lt_from 0 0 bs h (omega (arith, pow-zero 2)))

-- ---- bits as bytes, and back: a contract on bits leaves no second outcome

pub length-packed : (n : ℕ) (bs : List ℕ) → length (packed n bs) ≡ n
unfolding packed
length-packed zero bs = refl
length-packed (suc n) bs = ap suc (length-packed n (drop 8 bs))

pub packed-bits : (s rest : List ℕ) → Bytes s → packed (length s) (bits s ++ rest) ≡ s
unfolding packed bits
packed-bits [] rest h = refl
packed-bits (x ∷ xs) rest h =
    rw (append_assoc (msb 8 x) (bits xs) rest, take_at (msb 8 x) (bits xs ++ rest) 8 (length-msb 8 x), drop_at (msb 8 x) (bits xs ++ rest) 8 (length-msb 8 x), num-msb 8 x (h 0), packed-bits xs rest (λ k. h (suc k)))

pub bits-packed : (n : ℕ) (bs : List ℕ) → Small bs → 8 * n ≤ length bs → bits (packed n bs) ≡ take (8 * n) bs
unfolding packed bits
bits-packed zero bs h g = refl
bits-packed (suc n) bs h g =
    let e : 8 * suc n ≡ 8 + 8 * n = omega arith in
    let m : msb 8 (num (take 8 bs)) ≡ take 8 bs = msb-num 8 (take 8 bs) (small_take 8 bs h) (length-take-le 8 bs (omega arith)) in
    rw (m, bits-packed n (drop 8 bs) (small_drop 8 bs h) (omega (arith, length-drop 8 bs)), e) (sym (take-add 8 (8 * n) bs))

pub bytes_of : (s : List ℕ) → Bytes s → packed (length s) (bits s) ≡ s
bytes_of s h = ap (packed (length s)) (sym (append-nil (bits s))) ∙ packed-bits s [] h
