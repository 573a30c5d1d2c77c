-- Parts that share bytes. Assumes nothing.
use mathlib.Core.Path.{◌≡◌, refl, sym, ap, ap₂, ◌∙◌}
use mathlib.Core.List.{List, ◌++◌, append_assoc}
use Prim.Native.Nat.{ℕ, ◌+◌, ◌≤◌}
use native.Mathlib.Omega.{arith}
use lib.ListN.{length, take, drop, length-append}
use lib.Seq.{take-add, drop-drop, length-take-le}
use Rattle.wire.specs.Splice.{splice}
use Rattle.wire.specs.Little.{little, number}
use Rattle.wire.proofs.SpliceLaws.{parts, part_length, splice_mid, splice_then, splice-again, length-splice}
use Rattle.wire.proofs.LittleLaws.{Bytes, little-number}

part_add : (l : List ℕ) (at n m : ℕ) → take (n + m) (drop at l) ≡ take n (drop at l) ++ take m (drop (at + n) l)
part_add l at n m = take-add n m (drop at l) ∙ ap (λ (r : List ℕ). take n (drop at l) ++ take m r) (drop-drop n at l)

-- the second begins with the end of the first
splice-over : (l : List ℕ) (at : ℕ) (xs b ys : List ℕ) → at + length xs + length b + length ys ≤ length l
    → splice (splice l at (xs ++ b)) (at + length xs) (b ++ ys) ≡ splice l at (xs ++ (b ++ ys))
splice-over l at xs b ys h =
    let s : List ℕ = splice l at xs in
    let ls : length s ≡ length l = length-splice l at xs (omega arith) in
    let o : List ℕ = splice s (at + length xs) b in
    let lo : length o ≡ length s = length-splice s (at + length xs) b (omega arith) in
    ap (λ (x : List ℕ). splice x (at + length xs) (b ++ ys)) (sym (splice_then l at xs b (omega arith)))
    ∙ sym (splice_then o (at + length xs) b ys (omega arith))
    ∙ ap (λ (x : List ℕ). splice x (at + length xs + length b) ys) (splice-again s (at + length xs) b b refl (omega arith))
    ∙ splice_then s (at + length xs) b ys (omega arith)
    ∙ splice_then l at xs (b ++ ys) (omega (arith, length-append b ys))

-- two words that share a byte are seven bytes
pub seven_copied : (dst src : List ℕ) (at from : ℕ) → Bytes src → at + 7 ≤ length dst → from + 7 ≤ length src → {w₁ w₂ : ℕ} {d₁ d₂ : List ℕ}
    → w₁ ≡ number src from 4 → d₁ ≡ splice dst at (little 4 w₁) → w₂ ≡ number src (from + 3) 4 → d₂ ≡ splice d₁ (at + 3) (little 4 w₂)
    → d₂ ≡ splice dst at (take 7 (drop from src))
seven_copied dst src at from bytes room there {w₁ = w₁} {w₂ = w₂} e₁ f₁ e₂ f₂ =
    let xs : List ℕ = take 3 (drop from src) in
    let b : List ℕ = take 1 (drop (from + 3) src) in
    let ys : List ℕ = take 3 (drop (from + 3 + 1) src) in
    let lx : length xs ≡ 3 = part_length src from 3 (omega arith) in
    let lb : length b ≡ 1 = part_length src (from + 3) 1 (omega arith) in
    let ly : length ys ≡ 3 = part_length src (from + 3 + 1) 3 (omega arith) in
    let first : little 4 w₁ ≡ xs ++ b = ap (little 4) e₁ ∙ little-number src from 4 bytes (omega arith) ∙ part_add src from 3 1 in
    let second : little 4 w₂ ≡ b ++ ys = ap (little 4) e₂ ∙ little-number src (from + 3) 4 bytes (omega arith) ∙ part_add src (from + 3) 1 3 in
    f₂ ∙ rw (f₁, first, second) (rw lx at (splice-over dst at xs b ys (omega arith))) ∙ ap (splice dst at) (sym (part_add src from 3 4 ∙ ap (λ (l : List ℕ). xs ++ l) (part_add src (from + 3) 1 3)))

-- a part of a part, put back
pub splice-inside : (l : List ℕ) (at n p : ℕ) (bs : List ℕ) → at + n ≤ length l → p + length bs ≤ n
    → splice l at (splice (take n (drop at l)) p bs) ≡ splice l (at + p) bs
splice-inside l at n p bs room fits =
    let A : List ℕ = take at l in
    let B : List ℕ = take n (drop at l) in
    let C : List ℕ = drop (at + n) l in
    let X : List ℕ = take p B in
    let Y : List ℕ = take (length bs) (drop p B) in
    let W : List ℕ = drop (p + length bs) B in
    let la : length A ≡ at = length-take-le at l (omega arith) in
    let lB : length B ≡ n = part_length l at n room in
    let lx : length X ≡ p = length-take-le p B (omega arith) in
    let ly : length Y ≡ length bs = part_length B p (length bs) (omega arith) in
    let e : B ≡ X ++ (Y ++ W) = parts B p (length bs) in
    let s : l ≡ A ++ (B ++ C) = parts l at n in
    let inner : splice B p bs ≡ X ++ (bs ++ W) = ap (λ (b : List ℕ). splice b p bs) e ∙ splice_mid X Y bs W p lx ly in
    let li : length (splice B p bs) ≡ n = length-splice B p bs (omega arith) ∙ lB in
    let outer : splice l at (splice B p bs) ≡ A ++ (splice B p bs ++ C) = ap (λ (x : List ℕ). splice x at (splice B p bs)) s ∙ splice_mid A B (splice B p bs) C at la (lB ∙ sym li) in
    let split : l ≡ (A ++ X) ++ (Y ++ (W ++ C)) =
    s ∙ ap (λ (b : List ℕ). A ++ (b ++ C)) e ∙ ap (λ (r : List ℕ). A ++ r) (append_assoc X (Y ++ W) C ∙ ap (λ (r : List ℕ). X ++ r) (append_assoc Y W C)) ∙ sym (append_assoc A X (Y ++ (W ++ C))) in
    let lax : length (A ++ X) ≡ at + p = length-append A X ∙ ap₂ ◌+◌ la lx in
    let other : splice l (at + p) bs ≡ (A ++ X) ++ (bs ++ (W ++ C)) = ap (λ (x : List ℕ). splice x (at + p) bs) split ∙ splice_mid (A ++ X) Y bs (W ++ C) (at + p) lax ly in
    outer ∙ ap (λ (r : List ℕ). A ++ (r ++ C)) inner ∙ ap (λ (r : List ℕ). A ++ r) (append_assoc X (bs ++ W) C ∙ ap (λ (r : List ℕ). X ++ r) (append_assoc bs W C)) ∙ sym (append_assoc A X (bs ++ (W ++ C))) ∙ sym other
