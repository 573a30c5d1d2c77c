-- The laws of `splice`: what it leaves, what it makes, and splices after each other. Assumes nothing.
use mathlib.Core.Bool.{Bool, true, false, ◌||◌, or-true}
use mathlib.Core.Logic.{◌⊎◌, inl, inr}
use mathlib.Core.Path.{◌≡◌, refl, sym, ap, ◌∙◌}
use mathlib.Core.List.{List, [], ◌∷◌, ◌++◌, append_assoc, append-nil}
use Prim.Native.Nat.{ℕ, suc, ◌+◌, ◌-◌, ◌≤◌, ◌<◌}
use native.Mathlib.Nat.{add-zero}
use native.Mathlib.Omega.{arith}
use lib.Dec.{leb}
use lib.ListN.{length, take, drop, set, replicate, length-replicate, length-append, length-take, length-drop, take-append-drop}
use lib.Seq.{take_at, drop_at, length-take-le, drop-drop, take-add, drop-append-le, take-append-le, drop-length, take-suc-set, drop-set-lt}
use borrow.Author.Tests.{leb-true, le-leb}
use borrow.Rule.Slice.PartMut.{put_mid}
use Rattle.wire.specs.Splice.{splice, apart}

pub length-splice : (l : List ℕ) (at : ℕ) (vs : List ℕ) → at + length vs ≤ length l → length (splice l at vs) ≡ length l
unfolding splice
length-splice l at vs h = simp (length-append, length-take, length-drop) (omega arith)

-- the same with a condition that numbers settle
pub splice-length : (l : List ℕ) (at : ℕ) (vs : List ℕ) → leb (at + length vs) (length l) ≡ true → length (splice l at vs) ≡ length l
splice-length l at vs h = length-splice l at vs (leb-true _ _ h)

-- ---- what a splice makes

-- a store, and the rest behind it
pub splice_cons : (l : List ℕ) (at b : ℕ) (vs : List ℕ) → at < length l → splice l at (b ∷ vs) ≡ splice (set l at b) (suc at) vs
unfolding splice
splice_cons l at b vs h =
    let e : at + suc (length vs) ≡ suc at + length vs = omega arith in
    rw (take-suc-set l at b h, drop-set-lt (suc at + length vs) l at b (omega arith), append_assoc (take at l) (b ∷ []) (vs ++ drop (suc at + length vs) l), e)

pub splice_mid : (A M B Z : List ℕ) (at : ℕ) → length A ≡ at → length M ≡ length B → splice (A ++ (M ++ Z)) at B ≡ A ++ (B ++ Z)
unfolding splice
splice_mid A M B Z at ha hm =
    let d : drop (at + length B) (A ++ (M ++ Z)) ≡ Z =
    rw (← append_assoc A M Z) (drop_at (A ++ M) Z (at + length B) (omega (arith, length-append A M))) in
    rw (take_at A (M ++ Z) at ha, d)

pub splice_none : (l : List ℕ) (at : ℕ) → splice l at [] ≡ l
unfolding splice
splice_none l at = ap (λ (k : ℕ). take at l ++ drop k l) (add-zero at) ∙ take-append-drop at l

pub splice-whole : (l vs : List ℕ) → length vs ≡ length l → splice l 0 vs ≡ vs
unfolding splice
splice-whole l vs h =
    let e : 0 + length vs ≡ length l = omega arith in
    rw (e, drop-length l) (append-nil vs)

-- a list in three parts
pub parts : (l : List ℕ) (at n : ℕ) → l ≡ take at l ++ (take n (drop at l) ++ drop (at + n) l)
parts l at n =
    sym (take-append-drop at l)
    ∙ ap (λ (r : List ℕ). take at l ++ r) (sym (take-append-drop n (drop at l)) ∙ ap (λ (r : List ℕ). take n (drop at l) ++ r) (drop-drop n at l))

pub part_length : (l : List ℕ) (at n : ℕ) → at + n ≤ length l → length (take n (drop at l)) ≡ n
part_length l at n h = simp (length-take, length-drop) (omega arith)

-- what stood there already
pub splice-own : (l : List ℕ) (at n : ℕ) → at + n ≤ length l → splice l at (take n (drop at l)) ≡ l
unfolding splice
splice-own l at n h = rw (part_length l at n h) (sym (parts l at n))

-- a part that was lent, written over and given back: k is where it ends
pub splice-lent : (l : List ℕ) (at k : ℕ) (vs : List ℕ) → k ≡ at + length vs → put_mid at (k - at) l vs ≡ splice l at vs
unfolding splice
splice-lent l at k vs e =
    let n : k - at ≡ length vs = omega arith in
    rw (n, drop-drop (length vs) at l)

-- the same for a part that was made zero
pub zeros-lent : (l : List ℕ) (at k : ℕ) {zeros : List ℕ} → at ≤ k → k ≤ length l → zeros ≡ replicate (length (take (k - at) (drop at l))) 0
    → put_mid at (k - at) l zeros ≡ splice l at (replicate (k - at) 0)
zeros-lent l at k h room e =
    let n : length (take (k - at) (drop at l)) ≡ k - at = part_length l at (k - at) (omega arith) in
    let m : length (replicate {A = ℕ} (k - at) 0) ≡ k - at = length-replicate (k - at) 0 in
    rw (e, n) (splice-lent l at k (replicate (k - at) 0) (omega arith))

-- ---- splices after each other

-- the second stands behind the first
pub splice_then : (l : List ℕ) (at : ℕ) (xs ys : List ℕ) → at + length xs + length ys ≤ length l → splice (splice l at xs) (at + length xs) ys ≡ splice l at (xs ++ ys)
unfolding splice
splice_then l at xs ys h =
    let r : List ℕ = drop (at + length xs) l in
    let e : splice l at xs ≡ (take at l ++ xs) ++ (take (length ys) r ++ drop (length ys) r) =
    ap (λ (x : List ℕ). take at l ++ (xs ++ x)) (sym (take-append-drop (length ys) r))
    ∙ sym (append_assoc (take at l) xs (take (length ys) r ++ drop (length ys) r)) in
    let n : at + length xs + length ys ≡ at + length (xs ++ ys) = omega (arith, length-append xs ys) in
    let f : drop (length ys) r ≡ drop (at + length (xs ++ ys)) l =
    drop-drop (length ys) (at + length xs) l ∙ ap (λ (k : ℕ). drop k l) n in
    ap (λ (x : List ℕ). splice x (at + length xs) ys) e
    ∙ splice_mid (take at l ++ xs) (take (length ys) r) ys (drop (length ys) r) (at + length xs)
    (omega (arith, length-append (take at l) xs, length-take-le at l (omega arith)))
    (length-take-le (length ys) r (omega (arith, length-drop (at + length xs) l)))
    ∙ append_assoc (take at l) xs (ys ++ drop (length ys) r)
    ∙ ap (λ (x : List ℕ). take at l ++ (xs ++ (ys ++ x))) f
    ∙ ap (λ (x : List ℕ). take at l ++ x) (sym (append_assoc xs ys (drop (at + length (xs ++ ys)) l)))

-- the same, where the second's place is another term
pub splice_behind : (l : List ℕ) (at : ℕ) (xs ys : List ℕ) (k : ℕ) → at + length xs ≡ k → k + length ys ≤ length l → splice (splice l at xs) k ys ≡ splice l at (xs ++ ys)
splice_behind l at xs ys k e h = rw e at (splice_then l at xs ys (omega arith))

-- the second stands before the first
pub splice_front : (l : List ℕ) (at : ℕ) (xs ys : List ℕ) → at + length xs + length ys ≤ length l → splice (splice l (at + length xs) ys) at xs ≡ splice l at (xs ++ ys)
unfolding splice
splice_front l at xs ys h =
    let t : List ℕ = drop (at + length xs + length ys) l in
    let n : at + length xs + length ys ≡ at + length (xs ++ ys) = omega (arith, length-append xs ys) in
    let e : splice l (at + length xs) ys ≡ take at l ++ (take (length xs) (drop at l) ++ (ys ++ t)) =
    ap (λ (x : List ℕ). x ++ (ys ++ t)) (take-add at (length xs) l)
    ∙ append_assoc (take at l) (take (length xs) (drop at l)) (ys ++ t) in
    ap (λ (x : List ℕ). splice x at xs) e
    ∙ splice_mid (take at l) (take (length xs) (drop at l)) xs (ys ++ t) at (length-take-le at l (omega arith)) (part_length l at (length xs) (omega arith))
    ∙ ap (λ (x : List ℕ). take at l ++ x) (sym (append_assoc xs ys t))
    ∙ ap (λ (k : ℕ). take at l ++ ((xs ++ ys) ++ drop k l)) n

-- the second stands in the place of the first
pub splice-again : (l : List ℕ) (at : ℕ) (xs ys : List ℕ) → length xs ≡ length ys → at ≤ length l → splice (splice l at xs) at ys ≡ splice l at ys
unfolding splice
splice-again l at xs ys e h =
    splice_mid (take at l) xs ys (drop (at + length xs) l) at (length-take-le at l h) e
    ∙ ap (λ (k : ℕ). take at l ++ (ys ++ drop (at + k) l)) e

-- ---- what stands where: the conditions are tests, so that numbers settle them

-- the whole from behind the part on
drop_above : (l : List ℕ) (at : ℕ) (vs : List ℕ) (k : ℕ) → at + length vs ≤ k → at ≤ length l → drop k (splice l at vs) ≡ drop k l
unfolding splice
drop_above l at vs k h hl =
    let m : ℕ = k - (at + length vs) in
    let n : k ≡ at + length vs + m = omega arith in
    ap (λ (j : ℕ). drop j (take at l ++ (vs ++ drop (at + length vs) l))) n
    ∙ sym (drop-drop m (at + length vs) (take at l ++ (vs ++ drop (at + length vs) l)))
    ∙ ap (drop m) (rw (← append_assoc (take at l) vs (drop (at + length vs) l)) (drop_at (take at l ++ vs) (drop (at + length vs) l) (at + length vs) (omega (arith, length-append (take at l) vs, length-take-le at l hl))))
    ∙ drop-drop m (at + length vs) l
    ∙ ap (λ (j : ℕ). drop j l) (sym n)

part_below : (l : List ℕ) (at : ℕ) (vs : List ℕ) (q m : ℕ) → q + m ≤ at → at ≤ length l → take m (drop q (splice l at vs)) ≡ take m (drop q l)
unfolding splice
part_below l at vs q m h hl =
    let e : length (take at l) ≡ at = length-take-le at l hl in
    let f : (r : List ℕ) → take m (drop q (take at l ++ r)) ≡ take m (drop q (take at l)) =
    λ r. ap (take m) (drop-append-le q (take at l) r (omega arith)) ∙ take-append-le m (drop q (take at l)) r (omega (arith, length-drop q (take at l))) in
    f (vs ++ drop (at + length vs) l) ∙ sym (f (drop at l)) ∙ ap (λ (x : List ℕ). take m (drop q x)) (take-append-drop at l)

pub is_apart : (p n q m : ℕ) → (p + n ≤ q) ⊎ (q + m ≤ p) → apart p n q m ≡ true
is_apart p n q m (inl h) = rw (le-leb (p + n) q h)
is_apart p n q m (inr h) = rw (le-leb (q + m) p h) (or-true (leb (p + n) q))

either : {C : Type 0} (a b : Bool) → (a || b) ≡ true → (a ≡ true → C) → (b ≡ true → C) → C
either true b h f g = f refl
either false b h f g = g h

module _ (l : List ℕ) (at : ℕ) (vs : List ℕ) (room : leb at (length l) ≡ true) where
  -- the part that was written
  pub part_same : (n : ℕ) → length vs ≡ n → take n (drop at (splice l at vs)) ≡ vs
  unfolding splice
  part_same n e = rw (drop_at (take at l) (vs ++ drop (at + length vs) l) at (length-take-le at l (leb-true _ _ room)), take_at vs (drop (at + length vs) l) n e)

  -- a part that is apart from it
  pub part_apart : (q m : ℕ) → apart at (length vs) q m ≡ true → take m (drop q (splice l at vs)) ≡ take m (drop q l)
  part_apart q m h =
      either (leb (at + length vs) q) (leb (q + m) at) h
      (λ a. ap (take m) (drop_above l at vs q (leb-true _ _ a) (leb-true _ _ room)))
      (λ b. part_below l at vs q m (leb-true _ _ b) (leb-true _ _ room))
