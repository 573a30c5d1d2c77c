-- The walk over the NV rows of any table: what one row more comes to, and what the rule says of them. Assumes nothing.
use mathlib.Core.Bool.{Bool, true, false, ◌&&◌, cond}
use mathlib.Core.List.{List, [], ◌∷◌, ◌++◌, append_assoc, append-nil}
use mathlib.Core.Logic.{⊎_elim}
use mathlib.Core.Path.{◌≡◌, refl, sym, ap, ◌∙◌}
use Prim.Native.Nat.{ℕ, zero, suc, ◌+◌, ◌*◌, ◌^◌, ◌≤◌, ◌<◌}
use native.Mathlib.Nat.{not-suc-le-zero, le_of_suc-le-suc, add-zero, add_assoc}
use native.Mathlib.Numerals.{add-one}
use native.Mathlib.Omega.{arith}
use lib.Dec.{T, eqb, eqb-suc-suc, eqb-zero-suc}
use lib.ListN.{length, take, drop, get_or, length-append, length-take, length-drop, take-append-drop}
use lib.Seq.{drop-cons, take-suc}
use borrow.Author.Tests.{eq-eqb, ne_eqb}
use Rattle.bits.specs.Bits.{field}
use Rattle.block.proofs.Entries.{width_bool, width-bytes, length_entry, within_bool}
use Rattle.block.proofs.Kept.{Kept, kept}
use Rattle.block.specs.Asked.{starts, cut, held_front, saved_front, saved_numbers}
use Rattle.block.specs.Block.{width, row_width, part, entry_bits, entry_bytes, within, nv_rows, widths, saved, load_rows, values_good, rows_good}
use Rattle.table.proofs.Rules.{row_ok→rule}
use Rattle.table.proofs.Walks.{both_left, both_right, lt_or_ge, same_or_not}
use Rattle.table.specs.Row.{Row, no_row, BOOL}
use Rattle.table.specs.Rule.{pick, block_bits, block_sum, row_ok}
use Rattle.table.specs.Walk.{every}
use Rattle.wire.proofs.LittleLaws.{Bytes, number_lt}
use Rattle.wire.specs.Little.{from_little, number}
use Rattle.wire.specs.Splice.{splice}

-- ---- the next row is an NV row or not

pub nv_cons : (r : Row) (rs : List Row) → r.nv ≡ 1 → nv_rows (r ∷ rs) ≡ r ∷ nv_rows rs
unfolding nv_rows
nv_cons r rs e = rw (eq-eqb r.nv 1 e)

pub nv_other : (r : Row) (rs : List Row) → (r.nv ≡ 1 → ⊥) → nv_rows (r ∷ rs) ≡ nv_rows rs
unfolding nv_rows
nv_other r rs d = rw (ne_eqb r.nv 1 d)

-- ---- what the rule says of the NV rows

unfoldable pub Keeps : List Row → Type 0
Keeps [] = Unit
Keeps (r ∷ rs) = Kept r × Keeps rs

pub nv_keeps : (rs : List Row) → T (every row_ok rs) → Keeps (nv_rows rs)
unfolding every nv_rows Keeps
nv_keeps [] t = tt
nv_keeps (r ∷ rs) t =
    let here : T (row_ok r) = both_left (row_ok r) (every row_ok rs) t in
    let rest : Keeps (nv_rows rs) = nv_keeps rs (both_right (row_ok r) (every row_ok rs) t) in
    ⊎_elim
    (λ e. rw (nv_cons r rs e) (kept r (row_ok→rule r here) e, rest))
    (λ d. rw (nv_other r rs d) rest)
    (same_or_not r.nv 1)

pub keeps_at : (rs : List Row) (i : ℕ) → Keeps rs → i < length rs → Kept (get_or rs i no_row)
unfolding Keeps
keeps_at [] i k h = absurd (not-suc-le-zero h)
keeps_at (r ∷ rs) zero k h = k.0
keeps_at (r ∷ rs) (suc i) k h = keeps_at rs i k.1 (le_of_suc-le-suc h)

pub keeps_take : (rs : List Row) (i : ℕ) → Keeps rs → Keeps (take i rs)
unfolding Keeps
keeps_take rs zero k = tt
keeps_take [] (suc i) k = tt
keeps_take (r ∷ rs) (suc i) k = (k.0, keeps_take rs i k.1)

-- the NV rows' bits are those that the table counts
pick-cond : (b : Bool) (m n : ℕ) → pick b m n ≡ cond b m n
unfolding pick
pick-cond true m n = refl
pick-cond false m n = refl

bits_here : (r : Row) → r.nv ≡ 1 → block_bits r ≡ row_width r
unfolding block_bits width
bits_here r e = ap (λ (b : Bool). pick b (pick (eqb r.kind BOOL) 1 (8 * r.len)) 0) (eq-eqb r.nv 1 e) ∙ pick-cond true (pick (eqb r.kind BOOL) 1 (8 * r.len)) 0 ∙ pick-cond (eqb r.kind BOOL) 1 (8 * r.len)

bits-not : (r : Row) → (r.nv ≡ 1 → ⊥) → block_bits r ≡ 0
unfolding block_bits pick
bits-not r d = rw (ne_eqb r.nv 1 d)

pub widths_sum : (rs : List Row) → widths (nv_rows rs) ≡ block_sum rs
unfolding block_sum nv_rows widths
widths_sum [] = refl
widths_sum (r ∷ rs) =
    ⊎_elim
    (λ e. rw (nv_cons r rs e) (omega (arith, bits_here r e, widths_sum rs)))
    (λ d. rw (nv_other r rs d) (omega (arith, bits-not r d, widths_sum rs)))
    (same_or_not r.nv 1)

-- ---- lengths

pub part_long : (values : List ℕ) (r : Row) → Kept r → length values ≡ 1024 → length (part values r) ≡ r.len
part_long values r k e =
    omega (arith, length-take r.len (drop r.place values), length-drop r.place values, k.sized.inside)

pub length-saved : (values : List ℕ) (rs : List Row) → Keeps rs → length values ≡ 1024 → length (saved values rs) ≡ widths rs
unfolding saved widths Keeps
length-saved values [] k e = refl
length-saved values (r ∷ rs) k e =
    omega (arith, length-append (entry_bits r.kind r.len (part values r)) (saved values rs), length_entry r.kind r.len (part values r) (part_long values r k.0 e), length-saved values rs k.1 e)

-- an entry within its limits fits its width
pub fits : (values : List ℕ) (r : Row) → Kept r → Bytes values → within r (number values r.place r.len) ≡ true → from_little (part values r) < 2 ^ row_width r
unfolding number
fits values r k hb e =
    ⊎_elim
    (λ l. rw (width-bytes r.kind r.len l) (number_lt values r.place r.len hb))
    (λ (z : r.kind ≤ BOOL).
    let b : r.kind ≡ BOOL = omega arith in
    rw (width_bool r.kind r.len b) (omega (arith, within_bool r (number values r.place r.len) b (k.bool_high b) e)))
    (lt_or_ge BOOL r.kind)

-- ---- rows one after the other

widths-append : (xs ys : List Row) → widths (xs ++ ys) ≡ widths xs + widths ys
unfolding widths
widths-append [] ys = omega arith
widths-append (x ∷ xs) ys = omega (arith, widths-append xs ys)

saved-append : (values : List ℕ) (xs ys : List Row) → saved values (xs ++ ys) ≡ saved values xs ++ saved values ys
unfolding saved
saved-append values [] ys = refl
saved-append values (x ∷ xs) ys =
    ap (λ (l : List ℕ). entry_bits x.kind x.len (part values x) ++ l) (saved-append values xs ys)
    ∙ sym (append_assoc (entry_bits x.kind x.len (part values x)) (saved values xs) (saved values ys))

load_append : (bs : List ℕ) (at : ℕ) (xs ys : List Row) (values : List ℕ) → load_rows bs at (xs ++ ys) values ≡ load_rows bs (at + widths xs) ys (load_rows bs at xs values)
unfolding load_rows widths
load_append bs at [] ys values = ap (λ (k : ℕ). load_rows bs k ys values) (sym (add-zero at))
load_append bs at (x ∷ xs) ys values =
    load_append bs (at + row_width x) xs ys (splice values x.place (entry_bytes x.kind x.len (drop at bs)))
    ∙ ap (λ (k : ℕ). load_rows bs k ys (load_rows bs (at + row_width x) xs (splice values x.place (entry_bytes x.kind x.len (drop at bs))))) (add_assoc at (row_width x) (widths xs))

numbers_at : (bs : List ℕ) (at : ℕ) (rs : List Row) (i : ℕ) → i < length rs → get_or (saved_numbers bs at rs) i 0 ≡ field bs (at + widths (take i rs)) (cut (get_or rs i no_row))
unfolding saved_numbers widths
numbers_at bs at [] i h = absurd (not-suc-le-zero h)
numbers_at bs at (r ∷ rs) zero h = ap (λ (k : ℕ). field bs k (cut r)) (sym (add-zero at))
numbers_at bs at (r ∷ rs) (suc i) h =
    numbers_at bs (at + row_width r) rs i (le_of_suc-le-suc h)
    ∙ ap (λ (k : ℕ). field bs k (cut (get_or rs i no_row))) (add_assoc at (row_width r) (widths (take i rs)))

pub length_numbers : (bs : List ℕ) (at : ℕ) (rs : List Row) → length (saved_numbers bs at rs) ≡ length rs
unfolding saved_numbers
length_numbers bs at [] = refl
length_numbers bs at (r ∷ rs) = ap suc (length_numbers bs (at + row_width r) rs)

starts-at : (at : ℕ) (rs : List Row) (i : ℕ) → i ≤ length rs → get_or (starts at rs) i 0 ≡ at + widths (take i rs)
unfolding starts widths
starts-at at [] zero h = sym (add-zero at)
starts-at at [] (suc i) h = absurd (not-suc-le-zero h)
starts-at at (r ∷ rs) zero h = sym (add-zero at)
starts-at at (r ∷ rs) (suc i) h = starts-at (at + row_width r) rs i (le_of_suc-le-suc h) ∙ add_assoc at (row_width r) (widths (take i rs))

-- ---- how far the good ones go

one_good : (b c : Bool) (m n : ℕ) → c ≡ eqb m n → (b && c) ≡ eqb (cond b (suc m) 0) (suc n)
one_good true c m n e = e ∙ sym (eqb-suc-suc m n)
one_good false c m n e = sym (eqb-zero-suc n)

pub held_all_good : (values : List ℕ) (rs : List Row) → values_good values rs ≡ eqb (held_front values rs) (length rs)
unfolding values_good held_front
held_all_good values [] = refl
held_all_good values (r ∷ rs) =
    one_good (within r (number values r.place r.len)) (values_good values rs) (held_front values rs) (length rs) (held_all_good values rs)

pub saved_all_good : (bs : List ℕ) (at : ℕ) (rs : List Row) → rows_good bs at rs ≡ eqb (saved_front bs at rs) (length rs)
unfolding rows_good saved_front
saved_all_good bs at [] = refl
saved_all_good bs at (r ∷ rs) =
    one_good (within r (field bs at (row_width r))) (rows_good bs (at + row_width r) rs) (saved_front bs (at + row_width r) rs) (length rs) (saved_all_good bs (at + row_width r) rs)

one_most : (b : Bool) (m n : ℕ) → m ≤ n → cond b (suc m) 0 ≤ suc n
one_most true m n h = omega arith
one_most false m n h = omega arith

pub held-most : (values : List ℕ) (rs : List Row) → held_front values rs ≤ length rs
unfolding held_front
held-most values [] = omega arith
held-most values (r ∷ rs) = one_most (within r (number values r.place r.len)) (held_front values rs) (length rs) (held-most values rs)

-- ---- one row more

module _ (rs : List Row) (i : ℕ) (h : i < length rs) where
  abbrev here : Row
  here = get_or rs i no_row

  one_more : take (i + 1) rs ≡ take i rs ++ (here ∷ [])
  one_more = rw (add-one i) (take-suc rs i no_row h)

  left_over : drop i rs ≡ here ∷ drop (i + 1) rs
  left_over = rw (add-one i) (drop-cons rs i no_row h)

  pub widths-next : widths (take (i + 1) rs) ≡ widths (take i rs) + row_width here
  unfolding widths
  widths-next = ap widths one_more ∙ widths-append (take i rs) (here ∷ []) ∙ ap (λ (k : ℕ). widths (take i rs) + k) (add-zero (row_width here))

  pub widths-all : widths (take i rs) + row_width here ≤ widths rs
  widths-all = omega (arith, widths-next, ap widths (take-append-drop (i + 1) rs), widths-append (take (i + 1) rs) (drop (i + 1) rs))

  pub saved-next : (values : List ℕ) → saved values (take (i + 1) rs) ≡ saved values (take i rs) ++ entry_bits here.kind here.len (part values here)
  unfolding saved
  saved-next values = ap (saved values) one_more ∙ saved-append values (take i rs) (here ∷ []) ∙ ap (λ (l : List ℕ). saved values (take i rs) ++ l) (append-nil _)

  pub load_next : (bs : List ℕ) (at : ℕ) (values : List ℕ)
      → load_rows bs at (take (i + 1) rs) values ≡ splice (load_rows bs at (take i rs) values) here.place (entry_bytes here.kind here.len (drop (at + widths (take i rs)) bs))
  unfolding load_rows
  load_next bs at values = ap (λ (l : List Row). load_rows bs at l values) one_more ∙ load_append bs at (take i rs) (here ∷ []) values

  pub number_here : (bs : List ℕ) (at : ℕ) → get_or (saved_numbers bs at rs) i 0 ≡ field bs (at + widths (take i rs)) (cut here)
  number_here bs at = numbers_at bs at rs i h

  -- an answer says whether the entry is within its limits
  pub held_next : (values : List ℕ) {b : Bool} → within here (number values here.place here.len) ≡ b
      → held_front values (drop i rs) ≡ cond b (suc (held_front values (drop (i + 1) rs))) 0
  unfolding held_front
  held_next values e = ap (held_front values) left_over ∙ ap (λ (x : Bool). cond x (suc (held_front values (drop (i + 1) rs))) 0) e

  pub saved_front-next : (bs : List ℕ) (at : ℕ) {b : Bool} → within here (field bs at (row_width here)) ≡ b
      → saved_front bs at (drop i rs) ≡ cond b (suc (saved_front bs (at + row_width here) (drop (i + 1) rs))) 0
  unfolding saved_front
  saved_front-next bs at e = ap (saved_front bs at) left_over ∙ ap (λ (x : Bool). cond x (suc (saved_front bs (at + row_width here) (drop (i + 1) rs))) 0) e

  pub start_here : (at : ℕ) → get_or (starts at rs) i 0 ≡ at + widths (take i rs)
  start_here at = starts-at at rs i (omega arith)

  pub start-next : (at : ℕ) → get_or (starts at rs) (i + 1) 0 ≡ at + widths (take (i + 1) rs)
  start-next at = starts-at at rs (i + 1) (omega arith)
