-- The laws of whole numbers in bytes, over the width: lengths, round trips, bounds, and a number read after a splice. Assumes nothing.
use mathlib.Core.Bool.{true}
use mathlib.Core.Path.{◌≡◌, refl, ap}
use mathlib.Core.List.{List, [], ◌∷◌, ◌++◌}
use Prim.Native.Nat.{ℕ, zero, suc, ◌+◌, ◌*◌, ◌/◌, ◌%◌, ◌^◌, ◌≤◌, ◌<◌}
use native.Mathlib.Nat.{mul_assoc}
use native.Mathlib.Omega.{arith}
use lib.Dec.{leb}
use lib.Pow.{pow-add}
use lib.ListN.{length, take, drop, get_or}
use lib.Seq.{take-nil, drop-nil, get_or-drop}
use Rattle.wire.specs.Splice.{splice, apart}
use Rattle.wire.specs.Little.{little, from_little, number, put_number}
use Rattle.wire.proofs.SpliceLaws.{splice-length, part_length, part_apart}

-- ---- the bytes of a number

pub length-little : (n v : ℕ) → length (little n v) ≡ n
unfolding little
length-little zero v = refl
length-little (suc n) v = ap suc (length-little n (v / 256))

-- one byte more is 256 times as much
pub wider : (n : ℕ) → 2 ^ (8 * suc n) ≡ 256 * 2 ^ (8 * n)
wider n =
    let e : 8 * suc n ≡ 8 + 8 * n = omega arith in
    rw e (pow-add 2 8 (8 * n))

pub byte_split : (v : ℕ) → v % 256 + 256 * (v / 256) ≡ v
byte_split v = omega arith

byte_fits : (v m : ℕ) → v < 256 * m → v / 256 < m
byte_fits v m h = omega arith

pub from_little-little : (n v : ℕ) → v < 2 ^ (8 * n) → from_little (little n v) ≡ v
unfolding little from_little
from_little-little zero v h = omega arith
from_little-little (suc n) v h =
    rw (from_little-little n (v / 256) (byte_fits v (2 ^ (8 * n)) (rw wider at h))) (byte_split v)

-- ---- the number of some bytes

abbrev pub Bytes : List ℕ → Type 0
Bytes l = (k : ℕ) → get_or l k 0 < 256

low_byte : (b x : ℕ) → b < 256 → (b + 256 * x) % 256 ≡ b
low_byte b x h = omega arith

high-bytes : (b x : ℕ) → b < 256 → (b + 256 * x) / 256 ≡ x
high-bytes b x h = omega arith

pub little-from : (bs : List ℕ) → Bytes bs → little (length bs) (from_little bs) ≡ bs
unfolding little from_little
little-from [] h = refl
little-from (b ∷ bs) h =
    rw (low_byte b (from_little bs) (h 0), high-bytes b (from_little bs) (h 0), little-from bs (λ k. h (suc k)))

pub number_none : (l : List ℕ) (at : ℕ) → number l at 0 ≡ 0
unfolding number from_little
number_none l at = refl

-- the lowest byte, and the rest
pub number_suc : (l : List ℕ) (at n : ℕ) → number l at (suc n) ≡ get_or l at 0 + 256 * number l (suc at) n
unfolding number from_little
number_suc [] at n = rw (drop-nil at, drop-nil (suc at), take-nil n)
number_suc (b ∷ l) zero n = refl
number_suc (b ∷ l) (suc at) n = number_suc l at n

more : (b x m : ℕ) → b < 256 → x < m → b + 256 * x < 256 * m
more b x m h k = omega arith

pub number_lt : (l : List ℕ) (at n : ℕ) → Bytes l → number l at n < 2 ^ (8 * n)
number_lt l at zero h = rw number_none (omega arith)
number_lt l at (suc n) h = rw (number_suc, wider) (more (get_or l at 0) (number l (suc at) n) (2 ^ (8 * n)) (h at) (number_lt l (suc at) n h))

-- ---- the bytes of a part, and of the number that stands there

bytes_take : (n : ℕ) (l : List ℕ) → Bytes l → Bytes (take n l)
bytes_take zero l h k = omega arith
bytes_take (suc n) [] h k = omega arith
bytes_take (suc n) (x ∷ l) h zero = h 0
bytes_take (suc n) (x ∷ l) h (suc k) = bytes_take n l (λ j. h (suc j)) k

pub bytes-part : (l : List ℕ) (at n : ℕ) → Bytes l → Bytes (take n (drop at l))
bytes-part l at n h = bytes_take n (drop at l) (λ k. rw get_or-drop (h (at + k)))

pub little-number : (l : List ℕ) (at n : ℕ) → Bytes l → at + n ≤ length l → little n (number l at n) ≡ take n (drop at l)
unfolding number
little-number l at n h room = rw (part_length l at n room) at (little-from (take n (drop at l)) (bytes-part l at n h))

-- ---- a number read after a splice: the conditions are tests, so that numbers settle them

pub number-apart : (l : List ℕ) (at : ℕ) (vs : List ℕ) (q m : ℕ) → leb at (length l) ≡ true → apart at (length vs) q m ≡ true → number (splice l at vs) q m ≡ number l q m
unfolding number
number-apart l at vs q m room far = ap from_little (part_apart l at vs room q m far)

-- the same for a number that was written
pub number-off : (l : List ℕ) (at n v q m : ℕ) → leb at (length l) ≡ true → apart at n q m ≡ true → number (put_number l at n v) q m ≡ number l q m
number-off l at n v q m room far =
    number-apart l at (little n v) q m room (rw length-little far)

pub put_length : (l : List ℕ) (at n v : ℕ) → leb (at + n) (length l) ≡ true → length (put_number l at n v) ≡ length l
put_length l at n v room = splice-length l at (little n v) (rw length-little room)

-- ---- two numbers, one behind the other

carry : (x z : ℕ) → ((x + 256 * z) % 256 ≡ x % 256) × ((x + 256 * z) / 256 ≡ x / 256 + z)
carry x z = (omega arith, omega arith)

pub little-append : (a b x y : ℕ) → x < 2 ^ (8 * a) → little a x ++ little b y ≡ little (a + b) (x + 2 ^ (8 * a) * y)
unfolding little
little-append zero b x y h =
    let e : 0 + b ≡ b = omega arith in
    let f : x + 1 * y ≡ y = omega arith in
    rw (e, f)
little-append (suc a) b x y h =
    let m : ℕ = 2 ^ (8 * a) in
    let e : suc a + b ≡ suc (a + b) = omega arith in
    let f : 256 * m * y ≡ 256 * (m * y) = mul_assoc 256 m y in
    rw (e, wider, f, (carry x (m * y)).0, (carry x (m * y)).1) (ap (λ (r : List ℕ). x % 256 ∷ r) (little-append a b (x / 256) y (byte_fits x m (rw wider at h))))
