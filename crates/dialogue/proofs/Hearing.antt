-- THE LINES OF AN INPUT ARE HEARD: byte by byte, with twenty bytes kept, the same is told as by the whole lines. Assumes nothing.
use mathlib.Core.Bool.{Bool, true, false, cond}
use mathlib.Core.List.{List, [], ◌∷◌, ◌++◌, map}
use mathlib.Core.Path.{◌≡◌, refl, sym, ap, ◌∙◌}
use Prim.Native.Nat.{ℕ, ◌+◌, ◌-◌, ◌≤◌, ◌<◌, min}
use native.Mathlib.Numerals.{add-one}
use native.Mathlib.Omega.{arith}
use lib.Dec.{leb, ltb, eqb}
use lib.ListN.{length, take, get_or, set, replicate, length-append, length-set, length-take}
use lib.Seq.{take_all, take-suc-set, take-append-le}
use borrow.Author.Tests.{ltb-true, ltb-false, leb-true, leb-false, ne_eqb, lt-ltb, le-ltb}
use Rattle.wire.proofs.FlagLaws.{by_test}
use Rattle.std.specs.Prelude.{None}
use Rattle.dialogue.specs.declared.hear.Pending.{Pending}
use Rattle.dialogue.specs.Text.{is_message, read, without_return, spoken}
use Rattle.dialogue.specs.Lines.{lines, lines_from, nothing_yet, extended, after, pending_spoken, left_over, lines_heard}

-- ---- a line of more than nineteen bytes is no message, whatever it is

long_read : (l : List ℕ) → 18 < length l → read l ≡ None
unfolding read is_message
long_read l h = rw (ne_eqb (length l) 18 (λ e. omega arith))

long_return : (l : List ℕ) → length l ≤ length (without_return l) + 1
unfolding without_return
long_return l =
    by_test (eqb (get_or l (length l - 1) 0) 13)
    (λ e. rw (e, length-take) (omega arith))
    (λ e. rw e (omega arith))

pub too_long : (l : List ℕ) → 20 ≤ length l → spoken l ≡ None
unfolding spoken
too_long l h = long_read (without_return l) (omega (arith, long_return l))

-- so the first twenty bytes say what the line says
pub spoken-cut : (l : List ℕ) → spoken (take 20 l) ≡ spoken l
spoken-cut l =
    by_test (leb (length l) 20)
    (λ e. ap spoken (take_all 20 l (leb-true _ _ e)))
    (λ e. let h : 20 < length l = leb-false _ _ e in too_long (take 20 l) (rw length-take (omega arith)) ∙ sym (too_long l (omega arith)))

-- ---- what is kept of a line

-- the first n bytes of text are what is kept of the line that has begun with l
pub record Holds (text : List ℕ) (n : ℕ) (l : List ℕ) : Type 0 where
  pub wide : length text ≡ 20
  pub counted : n ≡ min 20 (length l)
  pub kept : take n text ≡ take 20 l

holds_none : (text : List ℕ) → length text ≡ 20 → Holds text 0 []
holds_none text h = record { wide = h; counted = refl; kept = refl }

-- never more than twenty bytes
extended-count : (text : List ℕ) (n b : ℕ) → n ≤ 20 → (extended text n b).count ≤ 20
unfolding extended
extended-count text n b h =
    by_test (eqb b 10)
    (λ e. rw e h)
    (λ e. rw e (by_test (ltb n 20) (λ f. rw f (omega (arith, ltb-true n 20 f))) (λ f. rw f h)))

pub after-count : (p : Pending) (b : ℕ) → p.count ≤ 20 → (after p b).count ≤ 20
unfolding after
after-count p b h = extended-count p.text (cond p.ended 0 p.count) b (by_test p.ended (λ e. rw e (omega arith)) (λ e. rw e h))

module _ (text l : List ℕ) (n b : ℕ) (k : Holds text n l) where
  holds_more : n < 20 → Holds (set text n b) (n + 1) (l ++ (b ∷ []))
  holds_more h =
      let few : length (l ++ (b ∷ [])) ≡ n + 1 = rw length-append (omega (arith, k.counted)) in
      let whole : take 20 (l ++ (b ∷ [])) ≡ l ++ (b ∷ []) = take_all 20 (l ++ (b ∷ [])) (omega arith) in
      let own : take 20 l ≡ l = take_all 20 l (omega (arith, k.counted)) in
      record {
        wide = length-set text n b ∙ k.wide;
        counted = omega arith;
        kept = rw (whole, add-one n) (take-suc-set text n b (omega (arith, k.wide)) ∙ ap (λ (t : List ℕ). t ++ (b ∷ [])) (k.kept ∙ own));
      }

  holds_full : 20 ≤ n → Holds text n (l ++ (b ∷ []))
  holds_full h =
      let many : 20 ≤ length l = omega (arith, k.counted) in
      record {
        wide = k.wide;
        counted = rw length-append (omega (arith, k.counted));
        kept = k.kept ∙ sym (take-append-le 20 l (b ∷ []) many);
      }

  holds-spoken : spoken (take n text) ≡ spoken l
  holds-spoken = ap spoken k.kept ∙ spoken-cut l

-- ---- all that is told

abbrev pending : List ℕ → ℕ → Bool → Pending
pending text n e = record { text = text; count = n; ended = e }

module _ (bs : List ℕ) (rest : (text l : List ℕ) (n : ℕ) (e : Bool) → Holds text (cond e 0 n) l → lines_heard (pending text n e) bs ≡ map spoken (lines_from l bs)) where
  one_byte : (text l : List ℕ) (n b : ℕ) → Holds text n l → cond (extended text n b).ended (pending_spoken (extended text n b) ∷ lines_heard (extended text n b) bs) (lines_heard (extended text n b) bs) ≡ map spoken (lines_from l (b ∷ bs))
  unfolding extended pending_spoken lines_from
  one_byte text l n b k =
      by_test (eqb b 10)
      (λ e. rw (e, holds-spoken text l n b k) (ap (◌∷◌ (spoken l)) (rest text [] n true (holds_none text k.wide))))
      (λ e. rw e (by_test (ltb n 20)
      (λ f. rw f (rest (set text n b) (l ++ (b ∷ [])) (n + 1) false (holds_more text l n b k (ltb-true _ _ f))))
      (λ f. rw f (rest text (l ++ (b ∷ [])) n false (holds_full text l n b k (ltb-false _ _ f))))))

no_more : (text l : List ℕ) (n : ℕ) (e : Bool) → Holds text (cond e 0 n) l → lines_heard (pending text n e) [] ≡ map spoken (lines_from l [])
unfolding lines_heard left_over lines_from pending_spoken
no_more text l n true k = rw (le-ltb 0 (length l) (omega (arith, k.counted)))
no_more text l n false k =
    by_test (ltb 0 (length l))
    (λ e. let h : 0 < length l = ltb-true _ _ e in rw (e, lt-ltb 0 n (omega (arith, k.counted)), holds-spoken text l n 0 k))
    (λ e. let h : length l ≤ 0 = ltb-false _ _ e in rw (e, le-ltb 0 n (omega (arith, k.counted))))

heard-from : (bs text l : List ℕ) (n : ℕ) (e : Bool) → Holds text (cond e 0 n) l → lines_heard (pending text n e) bs ≡ map spoken (lines_from l bs)
unfolding lines_heard after
heard-from [] text l n e k = no_more text l n e k
heard-from (b ∷ bs) text l n e k = one_byte bs (heard-from bs) text l (cond e 0 n) b k

-- whatever the input, what is told as its bytes come is what its lines say
pub heard : (input : List ℕ) → lines_heard nothing_yet input ≡ map spoken (lines input)
unfolding nothing_yet
heard input = heard-from input (replicate 20 0) [] 0 false (holds_none (replicate 20 0) refl)
