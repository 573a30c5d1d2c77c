-- Small facts about tests, bits and bytes that the functions' proofs cite.
use Prim.Native.Nat.{ℕ, zero, suc, ◌+◌, ◌-◌, ◌*◌, ◌/◌, ◌%◌, ◌≤◌, ◌<◌, min}
use native.Mathlib.Omega.{arith}
use native.Mathlib.Nat.{add-zero}
use mathlib.Core.Path.{◌≡◌, refl, sym, ap, ap₂, ◌∙◌}
use mathlib.Core.Bool.{Bool, true, and-eq-true_iff}
use mathlib.Core.List.{List, [], ◌∷◌, ◌++◌}
use lib.Dec.{leb}
use lib.ListN.{length, take, drop, get_or, replicate, length-take, length-drop}
use lib.Seq.{get_or-drop}
use borrow.Author.Tests.{leb-true}
use Rattle.wire.specs.Little.{little}
use Rattle.order.specs.Talk.{opened, part_given}
use Rattle.sdo.specs.declared.Key.{Key}
use Rattle.wire.specs.Flags.{bit}
use Rattle.sdo.specs.Eight.{choice, answer_of, short}

-- a test whose result is known settles the definition's test
pub said : {r s b : Bool} → r ≡ s → r ≡ b → s ≡ b
said p q = sym p ∙ q

pub above_four : {A : Type 0} (n : ℕ) (a₀ a₁ a₂ a₃ a₄ above : A) → 5 ≤ n → choice n a₀ a₁ a₂ a₃ a₄ above ≡ above
unfolding choice
above_four zero a₀ a₁ a₂ a₃ a₄ above h = absurd (omega arith)
above_four (suc zero) a₀ a₁ a₂ a₃ a₄ above h = absurd (omega arith)
above_four (suc (suc zero)) a₀ a₁ a₂ a₃ a₄ above h = absurd (omega arith)
above_four (suc (suc (suc zero))) a₀ a₁ a₂ a₃ a₄ above h = absurd (omega arith)
above_four (suc (suc (suc (suc zero)))) a₀ a₁ a₂ a₃ a₄ above h = absurd (omega arith)
above_four (suc (suc (suc (suc (suc n))))) a₀ a₁ a₂ a₃ a₄ above h = refl

-- the first four of a list, and the first seven, filled up with zeros, one by one
pub pad4 : (l : List ℕ) → length l ≤ 4 → l ++ replicate (4 - length l) 0 ≡ get_or l 0 0 ∷ get_or l 1 0 ∷ get_or l 2 0 ∷ get_or l 3 0 ∷ []
pad4 [] h = refl
pad4 (a ∷ []) h = refl
pad4 (a ∷ b ∷ []) h = refl
pad4 (a ∷ b ∷ c ∷ []) h = refl
pad4 (a ∷ b ∷ c ∷ d ∷ []) h = refl
pad4 (a ∷ b ∷ c ∷ d ∷ e ∷ l) h = absurd (omega arith)

pad7 : (l : List ℕ) → take 7 l ++ replicate (7 - length (take 7 l)) 0
    ≡ get_or l 0 0 ∷ get_or l 1 0 ∷ get_or l 2 0 ∷ get_or l 3 0 ∷ get_or l 4 0 ∷ get_or l 5 0 ∷ get_or l 6 0 ∷ []
pad7 [] = refl
pad7 (a ∷ []) = refl
pad7 (a ∷ b ∷ []) = refl
pad7 (a ∷ b ∷ c ∷ []) = refl
pad7 (a ∷ b ∷ c ∷ d ∷ []) = refl
pad7 (a ∷ b ∷ c ∷ d ∷ e ∷ []) = refl
pad7 (a ∷ b ∷ c ∷ d ∷ e ∷ f ∷ []) = refl
pad7 (a ∷ b ∷ c ∷ d ∷ e ∷ f ∷ g ∷ l) = refl

-- eight bytes, taken one by one from a value, are the part that the definition lays out
pub part-laid : (l : List ℕ) (p : ℕ) (t last : Bool) (h b0 b1 b2 b3 b4 b5 b6 : ℕ)
    → h ≡ 16 * bit t + 2 * (7 - min 7 (length l - p)) + bit last
    → b0 ≡ get_or l p 0
    → b1 ≡ get_or l (p + 1) 0
    → b2 ≡ get_or l (p + 2) 0
    → b3 ≡ get_or l (p + 3) 0
    → b4 ≡ get_or l (p + 4) 0
    → b5 ≡ get_or l (p + 5) 0
    → b6 ≡ get_or l (p + 6) 0
    → (h ∷ b0 ∷ b1 ∷ b2 ∷ b3 ∷ b4 ∷ b5 ∷ b6 ∷ []) ≡ answer_of (part_given t (take 7 (drop p l)) last)
unfolding answer_of
part-laid l p t last h b0 b1 b2 b3 b4 b5 b6 eh e0 e1 e2 e3 e4 e5 e6 =
    let n : length (take 7 (drop p l)) ≡ min 7 (length l - p) = simp (length-take, length-drop) in
    let z : get_or (drop p l) 0 0 ≡ get_or l p 0 = get_or-drop p l 0 0 ∙ ap (λ (i : ℕ). get_or l i 0) (add-zero p) in
    ap₂ ◌∷◌ (eh ∙ ap (λ (m : ℕ). 16 * bit t + 2 * (7 - m) + bit last) (sym n))
    (sym (pad7 (drop p l) ∙ cc (z, e0, e1, get_or-drop p l 1 0, e2, get_or-drop p l 2 0, e3, get_or-drop p l 3 0, e4, get_or-drop p l 4 0, e5, get_or-drop p l 5 0, e6, get_or-drop p l 6 0)))

-- a value that is read at once has one to four bytes
pub short_bounds : (n : ℕ) → short n ≡ true → (1 ≤ n) × (n ≤ 4)
short_bounds n e = let both = (and-eq-true_iff (leb 1 n) (leb n 4)).0 e in (leb-true 1 n both.0, leb-true n 4 both.1)

-- a small number in four bytes
pub little_small : (n : ℕ) → n < 256 → little 4 n ≡ n ∷ 0 ∷ 0 ∷ 0 ∷ []
unfolding little
little_small n h =
    let low : n % 256 ≡ n = omega arith in
    let rest : n / 256 ≡ 0 = omega arith in
    rw (low, rest)

-- eight bytes, the value's taken one by one from the held ones, are the opening's answer
pub short-laid : (k : Key) (held : List ℕ) (len b0 b1 b2 b3 : ℕ) → len ≤ 4 → len ≤ length held
    → b0 ≡ get_or (take len held) 0 0
    → b1 ≡ get_or (take len held) 1 0
    → b2 ≡ get_or (take len held) 2 0
    → b3 ≡ get_or (take len held) 3 0
    → ((67 + 4 * (4 - len)) ∷ k.index % 256 ∷ k.index / 256 ∷ k.sub ∷ b0 ∷ b1 ∷ b2 ∷ b3 ∷ []) ≡ answer_of (opened k len (take len held) true)
unfolding answer_of
short-laid k held len b0 b1 b2 b3 small fits e0 e1 e2 e3 =
    let n : length (take len held) ≡ len = rw length-take (omega arith) in
    let s : length (take len held) ≤ 4 = omega arith in
    let p = pad4 (take len held) s in
    rw (p, n, e0, e1, e2, e3)
