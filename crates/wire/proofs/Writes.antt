-- Several numbers written one after the other: what is read afterwards, by tests that numerals settle. Assumes nothing.
use mathlib.Core.Bool.{Bool, true, false, cond, ◌&&◌, ◌||◌, and-eq-true_iff}
use mathlib.Core.Path.{◌≡◌, refl, ap, ◌∙◌}
use mathlib.Core.List.{List, [], ◌∷◌}
use Prim.Native.Nat.{ℕ, ◌+◌}
use native.Mathlib.Omega.{arith}
use lib.Dec.{leb, eqb}
use lib.ListN.{length}
use borrow.Author.Tests.{leb-true, le-leb, eqb-true}
use Rattle.wire.specs.Splice.{apart}
use Rattle.wire.specs.Little.{little, from_little, number, put_number}
use Rattle.wire.proofs.SpliceLaws.{part_same}
use Rattle.wire.proofs.LittleLaws.{length-little, number-off, put_length}

pub record Write : Type 0 where
  pub place : ℕ
  pub width : ℕ
  pub holds : ℕ

abbrev pub write : ℕ → ℕ → ℕ → Write
write at n v = record { place = at; width = n; holds = v }

abbrev pub written : List ℕ → List Write → List ℕ
written l [] = l
written l (w ∷ ws) = written (put_number l w.place w.width w.holds) ws

-- each write is within n bytes
abbrev pub within : ℕ → List Write → Bool
within n [] = true
within n (w ∷ ws) = leb (w.place + w.width) n && within n ws

abbrev pub here : Write → ℕ → ℕ → Bool
here w q m = eqb w.place q && eqb w.width m

-- each write is of the m bytes from q on, or apart from them
abbrev pub tidy : List Write → ℕ → ℕ → Bool
tidy [] q m = true
tidy (w ∷ ws) q m = (here w q m || apart w.place w.width q m) && tidy ws q m

-- what those bytes show in the end, where they showed old before
abbrev pub shown : List Write → ℕ → ℕ → ℕ → ℕ
shown [] q m old = old
shown (w ∷ ws) q m old = shown ws q m (cond (here w q m) (from_little (little m w.holds)) old)

pub written-length : (ws : List Write) (l : List ℕ) (n : ℕ) → length l ≡ n → within n ws ≡ true → length (written l ws) ≡ n
written-length [] l n h k = h
written-length (w ∷ ws) l n h k =
    let room = (and-eq-true_iff (leb (w.place + w.width) n) _).0 k in
    written-length ws _ n (put_length l w.place w.width w.holds (rw h room.0) ∙ h) room.1

same : (l : List ℕ) (w : Write) (q m : ℕ) → leb w.place (length l) ≡ true → here w q m ≡ true → number (put_number l w.place w.width w.holds) q m ≡ from_little (little m w.holds)
unfolding number
same l w q m room e =
    let both = (and-eq-true_iff (eqb w.place q) _).0 e in
    let p : w.place ≡ q = eqb-true _ _ both.0 in
    let n : w.width ≡ m = eqb-true _ _ both.1 in
    rw (← p, ← n, part_same l w.place (little w.width w.holds) room w.width (length-little w.width w.holds))

-- one write
one : (b : Bool) (l : List ℕ) (w : Write) (q m : ℕ) → leb w.place (length l) ≡ true → here w q m ≡ b → b || apart w.place w.width q m ≡ true → number (put_number l w.place w.width w.holds) q m ≡ cond b (from_little (little m w.holds)) (number l q m)
one true l w q m room e t = same l w q m room e
one false l w q m room e t = number-off l w.place w.width w.holds q m room t

start : (at k n : ℕ) → leb (at + k) n ≡ true → leb at n ≡ true
start at k n h = le-leb at n (omega (arith, leb-true (at + k) n h))

pub number-shown : (ws : List Write) (l : List ℕ) (n q m : ℕ) → length l ≡ n → within n ws ≡ true → tidy ws q m ≡ true → number (written l ws) q m ≡ shown ws q m (number l q m)
number-shown [] l n q m h k t = refl
number-shown (w ∷ ws) l n q m h k t =
    let room = (and-eq-true_iff (leb (w.place + w.width) n) _).0 k in
    let clear = (and-eq-true_iff (here w q m || apart w.place w.width q m) _).0 t in
    let l' : List ℕ = put_number l w.place w.width w.holds in
    let h' : length l' ≡ n = put_length l w.place w.width w.holds (rw h room.0) ∙ h in
    number-shown ws l' n q m h' room.1 clear.1 ∙ ap (shown ws q m) (one (here w q m) l w q m (rw h (start w.place w.width n room.0)) refl clear.0)
