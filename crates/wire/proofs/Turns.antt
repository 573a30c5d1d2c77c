-- One turn of each loop: what is still to be done, done by one byte. Assumes nothing.
use mathlib.Core.Path.{◌≡◌, sym, ap, ◌∙◌}
use mathlib.Core.List.{List, [], ◌∷◌}
use Prim.Native.Nat.{ℕ, suc, ◌+◌, ◌-◌, ◌/◌, ◌%◌, ◌<◌, ◌≤◌}
use native.Mathlib.Omega.{arith}
use lib.ListN.{length, take, drop, get_or, set}
use lib.Seq.{drop-cons}
use Rattle.wire.specs.Splice.{splice}
use Rattle.wire.specs.Little.{little}
use Rattle.wire.proofs.SpliceLaws.{splice_cons, splice_none, splice-whole, part_length}
use Rattle.wire.proofs.LittleLaws.{length-little}

-- the next byte is stored, and the others are still to come
pub store-turn : (l all : List ℕ) (k next b : ℕ) (bs : List ℕ) → k < length l → next ≡ suc k → splice l k (b ∷ bs) ≡ all → splice (set l k b) next bs ≡ all
store-turn l all k next b bs h n e = rw n (sym (splice_cons l k b bs h) ∙ e)

pub little-turn : (n i v : ℕ) → i < n → little (n - i) v ≡ v % 256 ∷ little (n - (i + 1)) (v / 256)
unfolding little
little-turn n i v h =
    let e : n - i ≡ suc (n - (i + 1)) = omega arith in
    rw e

pub rest-turn : (s : List ℕ) (i : ℕ) → i < length s → drop i s ≡ get_or s i 0 ∷ drop (i + 1) s
rest-turn s i h =
    let f : i + 1 ≡ suc i = omega arith in
    rw (drop-cons s i 0 h, f)

-- all of a part is still to be done
pub part-all : (l : List ℕ) (at n v : ℕ) → at + n ≤ length l → splice (take (at + n - at) (drop at l)) 0 (little (n - 0) v) ≡ little n v
part-all l at n v h =
    let a : at + n - at ≡ n = omega arith in
    let b : n - 0 ≡ n = omega arith in
    rw (a, b) (splice-whole (take n (drop at l)) (little n v) (length-little n v ∙ sym (part_length l at n h)))

-- nothing is left to be done
pub store-done : (l all : List ℕ) (at : ℕ) (bs : List ℕ) → bs ≡ [] → splice l at bs ≡ all → l ≡ all
store-done l all at bs e f = sym (splice_none l at) ∙ ap (splice l at) (sym e) ∙ f

pub little-done : (n i v : ℕ) → n ≤ i → little (n - i) v ≡ []
unfolding little
little-done n i v h =
    let e : n - i ≡ 0 = omega arith in
    rw e
