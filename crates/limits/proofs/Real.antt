-- The order of the REALs, judged on their bit patterns as whole numbers: it is the order of `lib.Ieee`.
-- Assumes nothing.
use mathlib.Core.Path.{◌≡◌, refl, sym, ap, subst, ◌∙◌}
use mathlib.Core.Bool.{Bool, true, false, cond}
use mathlib.Core.Logic.{⊎_elim}
use Prim.Native.Nat.{ℕ, zero, suc, ◌+◌, ◌-◌, ◌*◌, ◌/◌, ◌%◌, ◌^◌, ◌<◌, ◌≤◌}
use native.Mathlib.Nat.{pow-suc, pow-zero, eq-or-lt_of_le, mul_comm, mul_assoc, mul-pos, zero-mul, add-mul, lt_of_lt_of_le, mul-le-mul, le_refl, mul-lt-mul_of_pos_right, le_of_lt, lt_of_mul-lt-mul_right}
use native.Mathlib.Omega.{arith}
use lib.Dec.{eqb, ltb, leb}
use lib.Pow.{pow_pos, pow_mono}
use borrow.Author.Tests.{eq-eqb, ne_eqb, lt-ltb, le-ltb, le-leb, lt-leb}
use lib.Ieee.{Float, nan, inf, fin, binary32, below, lt, of_bits, of_fields, up, down, odd}
use lib.Ieee.Exact.{HasValue, odd_sign}
use lib.Ieee.Fits.{down_pos}
use Rattle.table.proofs.Walks.{lt_or_ge}
use Rattle.table.specs.Rule.{pick, real_rank}

-- ---- order tests of the same numbers scaled

same_test : (x y a b : ℕ) → (x < y → a < b) → (y ≤ x → b ≤ a) → ltb x y ≡ ltb a b
same_test x y a b f g = ⊎_elim (λ h. lt-ltb x y h ∙ sym (lt-ltb a b (f h))) (λ h. le-ltb x y h ∙ sym (le-ltb a b (g h))) (lt_or_ge x y)

up_order : (x y a b c p : ℕ) → 0 < c → x * c ≡ a * p → y * c ≡ b * p → x < y → a < b
up_order x y a b c p hc ex ey h =
    let q : a * p < b * p = subst (λ (z : ℕ). z < b * p) ex (subst (λ (z : ℕ). x * c < z) ey (mul-lt-mul_of_pos_right h hc)) in
    lt_of_mul-lt-mul_right p q

scaled : (x y a b c p : ℕ) → 0 < c → 0 < p → x * c ≡ a * p → y * c ≡ b * p → ltb x y ≡ ltb a b
scaled x y a b c p hc hp ex ey =
    same_test x y a b (up_order x y a b c p hc ex ey)
    (λ h. ⊎_elim (λ l. absurd (let q = up_order a b x y p c hp (sym ex) (sym ey) l in omega arith)) (λ g. g) (lt_or_ge a b))

scaled_below : (x y a b c p : ℕ) → 0 < c → 0 < p → x * c ≡ a * p → y * c ≡ b * p → (s t : Bool) → below s x t y ≡ below s a t b
scaled_below x y a b c p hc hp ex ey false false = scaled x y a b c p hc hp ex ey
scaled_below x y a b c p hc hp ex ey false true = refl
scaled_below x y a b c p hc hp ex ey true false =
    scaled 0 (x + y) 0 (a + b) c p hc hp (zero-mul c ∙ sym (zero-mul p)) (add-mul x y c ∙ cc (ex, ey) ∙ sym (add-mul a b p))
scaled_below x y a b c p hc hp ex ey true true = scaled y x b a c p hc hp ey ex

-- ---- two finite values over one denominator

-- m u over de is a over c, so m u dd is a over c, in parts of de dd
cross : (m u c a de dd : ℕ) → m * u * c ≡ a * de → m * u * dd * c ≡ a * (de * dd)
cross m u c a de dd e = simp (mul_assoc, mul_comm) (simp mul_assoc at (ap (λ (z : ℕ). z * dd) e))

lt_values : (x y : Float) (s t : Bool) (a b c : ℕ) → 0 < c → HasValue x s a c → HasValue y t b c → lt x y ≡ below s a t b
unfolding lt
lt_values nan y s t a b c hc p q = absurd p
lt_values (inf u) y s t a b c hc p q = absurd p
lt_values (fin u m e) nan s t a b c hc p q = absurd q
lt_values (fin u m e) (inf v) s t a b c hc p q = absurd q
lt_values (fin u m e) (fin v n d) s t a b c hc p q =
    scaled_below (m * up e * down d) (n * up d * down e) a b c (down e * down d) hc (mul-pos (down_pos e) (down_pos d))
    (cross m (up e) c a (down e) (down d) p.1)
    (cross n (up d) c b (down d) (down e) q.1 ∙ ap (λ (z : ℕ). b * z) (mul_comm (down d) (down e))) u v
    ∙ ap (λ (z : Bool). below z a v b) p.0 ∙ ap (λ (z : Bool). below s a z b) q.0

-- ---- a pattern's size, in units of the smallest REAL, 2 ^ -149

-- by the exponent's field and the digits
abbrev size_of : ℕ → ℕ → ℕ
size_of zero t = t * 2 ^ 0
size_of (suc x) t = (8388608 + t) * 2 ^ x

fields_value : (s : Bool) (x t : ℕ) → x < 255 → HasValue (of_fields binary32 s x t) s (size_of x t) (2 ^ 149)
unfolding of_fields
fields_value s zero t h = odd_sign 24 s t 0 149
fields_value s (suc x) t h =
    subst (λ (b : Bool). HasValue (cond b (cond (eqb t 0) (inf s) nan) (odd 24 s (8388608 + t) x 149)) s (size_of (suc x) t) (2 ^ 149)) (sym (ne_eqb (suc x) 255 (omega arith)))
    (odd_sign 24 s (8388608 + t) x 149)

fields_inf : (s : Bool) (x t : ℕ) → x ≡ 255 → t ≡ 0 → of_fields binary32 s x t ≡ inf s
unfolding of_fields
fields_inf s zero t h e = absurd (omega arith)
fields_inf s (suc x) t h e = simp (eq-eqb (suc x) 255 h, eq-eqb t 0 e)

-- the size grows with the pattern
top_of : (x t : ℕ) → t < 8388608 → size_of x t < 8388608 * 2 ^ x
top_of zero t h = omega (arith, pow-zero 2)
top_of (suc x) t h =
    let q : (8388608 + t) * 2 ^ x < (8388608 + 8388608) * 2 ^ x = mul-lt-mul_of_pos_right (omega arith) (pow_pos x) in
    omega (arith, pow-suc 2 x)

same-field : (x t t' : ℕ) → t < t' → size_of x t < size_of x t'
same-field zero t t' h = mul-lt-mul_of_pos_right h (pow_pos 0)
same-field (suc x) t t' h = mul-lt-mul_of_pos_right (omega arith) (pow_pos x)

later_field : (x t z t' : ℕ) → t < 8388608 → x < z → size_of x t < size_of z t'
later_field x t zero t' h l = absurd (omega arith)
later_field x t (suc z) t' h l =
    lt_of_lt_of_le (top_of x t h) (mul-le-mul {n₁ = 8388608} {n₂ = 8388608 + t'} (omega arith) (pow_mono {i = x} {j = z} (omega arith)))

abbrev size : ℕ → ℕ
size r = size_of (r / 8388608) (r % 8388608)

size_grows : (r q : ℕ) → r < q → size r < size q
size_grows r q h =
    ⊎_elim
    (λ e. subst (λ (z : ℕ). size r < size_of z (q % 8388608)) e (same-field (r / 8388608) (r % 8388608) (q % 8388608) (omega arith)))
    (λ l. later_field (r / 8388608) (r % 8388608) (q / 8388608) (q % 8388608) (omega arith) l)
    (eq-or-lt_of_le {n = r / 8388608} {m = q / 8388608} (omega arith))

size_order : (r q : ℕ) → ltb (size r) (size q) ≡ ltb r q
size_order r q =
    sym (same_test r q (size r) (size q) (size_grows r q)
    (λ h. ⊎_elim (λ e. subst (λ (z : ℕ). size q ≤ size z) e (le_refl (size q))) (λ l. le_of_lt (size_grows q r l)) (eq-or-lt_of_le h)))

-- ---- the order of two patterns that are no NaN's

abbrev pub negative : ℕ → Bool
negative b = leb 2147483648 b

abbrev pub magnitude : ℕ → ℕ
magnitude b = b % 2147483648

size_below : (r q : ℕ) (s t : Bool) → below s (size r) t (size q) ≡ below s r t q
size_below r q false false = size_order r q
size_below r q false true = refl
size_below r q true false =
    same_test 0 (size r + size q) 0 (r + q)
    (λ h. ⊎_elim (λ l. l) (λ g.
    let er : size r ≡ 0 = ap size (zero_of r (omega arith)) in
    let eq : size q ≡ 0 = ap size (zero_of q (omega arith)) in
    absurd (omega arith)) (lt_or_ge 0 (r + q)))
    (λ h. ⊎_elim (λ l. ⊎_elim (λ lr. absurd (let u = size_grows 0 r lr in omega arith)) (λ gr. absurd (let u = size_grows 0 q (omega arith) in omega arith)) (lt_or_ge 0 r)) (λ g. g) (lt_or_ge 0 (r + q)))
  where
    zero_of : (n : ℕ) → n ≤ 0 → n ≡ 0
    zero_of n h = omega arith
size_below r q true true = size_order q r

finite-value : (b : ℕ) → magnitude b < 2139095040 → HasValue (of_bits binary32 b) (negative b) (size (magnitude b)) (2 ^ 149)
unfolding of_bits
finite-value b h =
    let e : b % 8388608 ≡ magnitude b % 8388608 = omega arith in
    subst (λ (t : ℕ). HasValue (of_fields binary32 (negative b) (magnitude b / 8388608) t) (negative b) (size (magnitude b)) (2 ^ 149)) (sym e)
    (fields_value (negative b) (magnitude b / 8388608) (magnitude b % 8388608) (omega arith))

infinite : (b : ℕ) → magnitude b ≡ 2139095040 → of_bits binary32 b ≡ inf (negative b)
unfolding of_bits
infinite b h = fields_inf (negative b) (magnitude b / 8388608) (b % 8388608) (omega arith) (omega arith)

inf_left : (y : Float) (s t : Bool) (v c r : ℕ) → HasValue y t v c → r < 2139095040 → lt (inf s) y ≡ below s 2139095040 t r
unfolding lt
inf_left nan s t v c r p h = absurd p
inf_left (inf u) s t v c r p h = absurd p
inf_left (fin u m e) false false v c r p h = sym (le-ltb 2139095040 r (omega arith))
inf_left (fin u m e) false true v c r p h = refl
inf_left (fin u m e) true false v c r p h = sym (lt-ltb 0 (2139095040 + r) (omega arith))
inf_left (fin u m e) true true v c r p h = sym (lt-ltb r 2139095040 h)

inf_right : (x : Float) (s t : Bool) (v c r : ℕ) → HasValue x s v c → r < 2139095040 → lt x (inf t) ≡ below s r t 2139095040
unfolding lt
inf_right nan s t v c r p h = absurd p
inf_right (inf u) s t v c r p h = absurd p
inf_right (fin u m e) false false v c r p h = sym (lt-ltb r 2139095040 h)
inf_right (fin u m e) false true v c r p h = refl
inf_right (fin u m e) true false v c r p h = sym (lt-ltb 0 (r + 2139095040) (omega arith))
inf_right (fin u m e) true true v c r p h = sym (le-ltb 2139095040 r (omega arith))

inf_both : (s t : Bool) → lt (inf s) (inf t) ≡ below s 2139095040 t 2139095040
unfolding lt
inf_both false false = refl
inf_both false true = refl
inf_both true false = refl
inf_both true true = refl

-- the float order is that of sign and magnitude
pattern_lt : (a b : ℕ) → magnitude a ≤ 2139095040 → magnitude b ≤ 2139095040
    → lt (of_bits binary32 a) (of_bits binary32 b) ≡ below (negative a) (magnitude a) (negative b) (magnitude b)
pattern_lt a b ha hb =
    ⊎_elim
    (λ ea. ⊎_elim
    (λ eb. cc (infinite a ea, infinite b eb, inf_both (negative a) (negative b)))
    (λ lb. cc (infinite a ea, inf_left (of_bits binary32 b) (negative a) (negative b) (size (magnitude b)) (2 ^ 149) (magnitude b) (finite-value b lb) lb))
    (eq-or-lt_of_le hb))
    (λ la. ⊎_elim
    (λ eb. cc (infinite b eb, inf_right (of_bits binary32 a) (negative a) (negative b) (size (magnitude a)) (2 ^ 149) (magnitude a) (finite-value a la) la))
    (λ lb. lt_values (of_bits binary32 a) (of_bits binary32 b) (negative a) (negative b) (size (magnitude a)) (size (magnitude b)) (2 ^ 149) (pow_pos 149) (finite-value a la) (finite-value b lb)
    ∙ size_below (magnitude a) (magnitude b) (negative a) (negative b))
    (eq-or-lt_of_le hb))
    (eq-or-lt_of_le ha)

-- and that of the ranks
rank_lt : (a b : ℕ) → a < 4294967296 → b < 4294967296 → below (negative a) (magnitude a) (negative b) (magnitude b) ≡ ltb (real_rank a) (real_rank b)
unfolding real_rank pick
rank_lt a b ha hb =
    ⊎_elim
    (λ la. ⊎_elim
    (λ lb. simp (lt-leb 2147483648 a la, lt-leb 2147483648 b lb, lt-ltb a 2147483648 la, lt-ltb b 2147483648 lb)
    (same_test (magnitude a) (magnitude b) (2147483648 + a) (2147483648 + b) (λ h. omega arith) (λ h. omega arith)))
    (λ gb. simp (lt-leb 2147483648 a la, le-leb 2147483648 b gb, lt-ltb a 2147483648 la, le-ltb b 2147483648 gb)
    (sym (le-ltb (2147483648 + a) (4294967296 - b) (omega arith))))
    (lt_or_ge b 2147483648))
    (λ ga. ⊎_elim
    (λ lb. simp (le-leb 2147483648 a ga, lt-leb 2147483648 b lb, le-ltb a 2147483648 ga, lt-ltb b 2147483648 lb)
    (same_test 0 (magnitude a + magnitude b) (4294967296 - a) (2147483648 + b) (λ h. omega arith) (λ h. omega arith)))
    (λ gb. simp (le-leb 2147483648 a ga, le-leb 2147483648 b gb, le-ltb a 2147483648 ga, le-ltb b 2147483648 gb)
    (same_test (magnitude b) (magnitude a) (4294967296 - a) (4294967296 - b) (λ h. omega arith) (λ h. omega arith)))
    (lt_or_ge b 2147483648))
    (lt_or_ge a 2147483648)

-- THE LAW: two patterns that are no NaN's compare as floats as their ranks do as whole numbers
pub real_lt : (a b : ℕ) → a < 4294967296 → b < 4294967296 → magnitude a ≤ 2139095040 → magnitude b ≤ 2139095040
    → lt (of_bits binary32 a) (of_bits binary32 b) ≡ ltb (real_rank a) (real_rank b)
real_lt a b ha hb na nb = pattern_lt a b na nb ∙ rank_lt a b ha hb
