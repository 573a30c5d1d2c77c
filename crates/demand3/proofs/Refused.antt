-- BOARDS THAT THE PROMISE REFUSES, whatever else they do: each is refuted at message calls that are answered, from power-up with form 0 on a zero block. Computed.
use Prim.Native.Nat.{ℕ}
use native.Mathlib.Omega.{arith}
use mathlib.Core.Path.{◌≡◌, refl, sym, ap, ap₂, ◌∙◌}
use mathlib.Core.Bool.{Bool, true, false, cond, false≢true, and-eq-true_iff}
use mathlib.Core.List.{List, [], ◌∷◌, ◌++◌, map}
use lib.Dec.{eqb}
use lib.ListN.{take, drop, get_or, replicate}
use borrow.Author.Tests.{eqb-true, eqb-false, ne_eqb}
use Rattle.command.specs.Words.{same_bytes}
use Rattle.board.specs.Calls.{Called, called, message_call}
use Rattle.demand3.specs.Firmware.{Arrays, arrays, Back, back, exported, history, final}
use Rattle.demand3.specs.Promised.{Given, Meets}
use Rattle.demand3.specs.Open.{all_opened}
use Rattle.demand3.specs.Conversation.{Case, on, padded, asks, fresh_arrays, gives_from, arrays_left, label_read, label_write}
use Rattle.demand3.specs.Examples.{case_a, case_b, case_e, label_changed}
use Rattle.demand3.specs.Refused.{eight_of, Aborts, Sends, Forgets, unheld, Fakes}

-- a call of a conversation, and its first from power-up
abbrev lent : Arrays → Case → Given
lent a c = record { line = c.line; message = padded c.message; values = a.values; block = a.block; state = a.state; room = replicate 8 0xEE }

abbrev first : List Case → Given
first cs = lent fresh_arrays (get_or cs 0 (on 0 [] []))

abbrev number_of : Called → ℕ
number_of o = o.number

abbrev byte_of : ℕ → Called → ℕ
byte_of k o = get_or (eight_of o) k 0

-- ---- one that aborts every request: the lock is readable (case A)

pub aborter_refused : (board : Given → Called) → Aborts board → Meets board → ⊥
unfolding case_a all_opened
aborter_refused board aborts h =
    let e : ◌≡◌ {A = ℕ} 0x80 0x4F = sym (aborts (first case_a) (ap number_of (h (first case_a)))) ∙ ap (byte_of 0) (h (first case_a)) in
    omega arith

-- ---- one that sends the same eight bytes always: case B against E

pub constant_refused : (board : Given → Called) (same : List ℕ) → Sends same board → Meets board → ⊥
unfolding case_b case_e all_opened
constant_refused board same always h =
    let sent : (i : Given) → (board i).number ≡ 0 → byte_of 0 (board i) ≡ get_or same 0 0 = λ i z. ap (λ (l : List ℕ). get_or l 0 0) (always i z) in
    let b : 0x60 ≡ get_or same 0 0 = sym (ap (byte_of 0) (h (first case_b))) ∙ sent (first case_b) (ap number_of (h (first case_b))) in
    let e : 0x80 ≡ get_or same 0 0 = sym (ap (byte_of 0) (h (first case_e))) ∙ sent (first case_e) (ap number_of (h (first case_e))) in
    omega arith

-- ---- one that stores nothing: in case J its next read would get zeros

no_letter : ◌≡◌ {A = ℕ} 0x41 0 → ⊥
no_letter e = omega arith

module _ (board : Given → Called) (forgets : Forgets board) (h : Meets board) where
  kept : (a : Arrays) (c : Case) → (exported a (asks c)).1.number ≡ 0 → (exported a (asks c)).0.values ≡ a.values
  unfolding exported
  kept a c z = sym (ap (λ (o : Called). o.values) (h (lent a c))) ∙ forgets (lent a c) (ap number_of (h (lent a c)) ∙ z)

  -- a conversation that is answered leaves the values as they were
  kept_along : (cs : List Case) (a : Arrays) → map (λ (b : Back). b.number) (gives_from a cs) ≡ map (λ (c : Case). 0) cs
      → (final a (map asks cs)).values ≡ a.values
  unfolding history final
  kept_along [] a z = refl
  kept_along (c ∷ cs) a z = kept_along cs (exported a (asks c)).0 (ap (drop 1) z) ∙ kept a c (ap (λ (l : List ℕ). get_or l 0 0) z)

-- the first byte of the label that the next read on line 0 gets, given the values
abbrev next_byte : List ℕ → ℕ
next_byte values = get_or (get_or (gives_from (arrays values (arrays_left label_changed).block (arrays_left label_changed).state) (label_read 0 0)) 1 (back 0 [])).room 1 0

next_changed : next_byte (arrays_left label_changed).values ≡ 0x41
unfolding label_changed all_opened
next_changed = refl

next_forgotten : next_byte fresh_arrays.values ≡ 0
unfolding label_changed all_opened
next_forgotten = refl

all-answered : map (λ (b : Back). b.number) (gives_from fresh_arrays label_changed) ≡ map (λ (c : Case). 0) label_changed
unfolding label_changed all_opened
all-answered = refl

pub forgetful_refused : (board : Given → Called) → Forgets board → Meets board → ⊥
forgetful_refused board forgets h =
    no_letter (sym next_changed ∙ ap next_byte (kept_along board forgets h label_changed fresh_arrays all-answered) ∙ next_forgotten)

-- ---- one that serves the opening and fakes the later parts: a label of zeros that was changed after the opening and one of 41s that was
-- written before it are held in memories that are alike in all else, and have other first parts

opened_before : List Case
opened_before = take 1 (label_read 0 0) ++ label_write 1 0x41

opened_after : List Case
opened_after = label_write 1 0x41 ++ take 1 (label_read 0 0x41)

abbrev part_of : List Case → Given
part_of cs = lent (arrays_left cs) (on 0 (0x60 ∷ []) [])

same_list : (xs ys : List ℕ) → same_bytes xs ys ≡ true → xs ≡ ys
unfolding same_bytes
same_list [] [] e = refl
same_list [] (y ∷ ys) e = absurd (false≢true e)
same_list (x ∷ xs) [] e = absurd (false≢true e)
same_list (x ∷ xs) (y ∷ ys) e = let p = (and-eq-true_iff (eqb x y) _).0 e in ap₂ ◌∷◌ (eqb-true x y p.0) (same_list xs ys p.1)

values-alike : same_bytes (arrays_left opened_after).values (arrays_left opened_before).values ≡ true
unfolding opened_before opened_after all_opened
values-alike = refl

block-alike : same_bytes (arrays_left opened_after).block (arrays_left opened_before).block ≡ true
unfolding opened_before opened_after all_opened
block-alike = refl

state-alike : same_bytes (drop 64 (arrays_left opened_after).state) (drop 64 (arrays_left opened_before).state) ≡ true
unfolding opened_before opened_after all_opened
state-alike = refl

alike : unheld (part_of opened_after) ≡ unheld (part_of opened_before)
alike = rw (same_list _ _ values-alike, same_list _ _ block-alike, same_list _ _ state-alike)

pub faker_refused : (board : Given → Called) (fake : Given → List ℕ) → Fakes fake board → Meets board → ⊥
unfolding opened_before opened_after all_opened
faker_refused board fake fakes h =
    let sent : (cs : List Case) → (board (part_of cs)).number ≡ 0 → byte_of 1 (board (part_of cs)) ≡ get_or (fake (unheld (part_of cs))) 1 0
    = λ cs z. ap (λ (l : List ℕ). get_or l 1 0) (fakes (part_of cs) z refl (omega arith)) in
    let zeros : 0 ≡ get_or (fake (unheld (part_of opened_before))) 1 0 =
    sym (ap (byte_of 1) (h (part_of opened_before))) ∙ sent opened_before (ap number_of (h (part_of opened_before))) in
    let letters : 0x41 ≡ get_or (fake (unheld (part_of opened_after))) 1 0 =
    sym (ap (byte_of 1) (h (part_of opened_after))) ∙ sent opened_after (ap number_of (h (part_of opened_after))) in
    no_letter (letters ∙ ap (λ (i : Given). get_or (fake i) 1 0) alike ∙ sym zeros)

-- ---- no call that is refused by number refutes any of them: one board is all four, and keeps the promise wherever that gives another number than 0

abbrev promised : Given → Called
promised i = message_call i.line i.message i.values i.block i.state i.room

abbrev wrong_answer : Given → Called
wrong_answer i = called 0 i.values i.block i.state (replicate 8 0x80)

unfoldable pub wrong : Given → Called
wrong i = cond (eqb (promised i).number 0) (wrong_answer i) (promised i)

answers_wrong : (i : Given) → (wrong i).number ≡ 0 → wrong i ≡ wrong_answer i
unfolding wrong
answers_wrong i = go (eqb (promised i).number 0) refl
  where
    go : (d : Bool) → eqb (promised i).number 0 ≡ d → (cond d (wrong_answer i) (promised i)).number ≡ 0 → cond d (wrong_answer i) (promised i) ≡ wrong_answer i
    go true e z = refl
    go false e z = absurd (eqb-false _ _ e z)

pub is_all_four : Aborts wrong × Sends (replicate 8 0x80) wrong × Forgets wrong × Fakes (λ i. replicate 8 0x80) wrong
is_all_four = (
  (λ i z. ap (byte_of 0) (answers_wrong i z)),
  (λ i z. ap eight_of (answers_wrong i z)),
  (λ i z. ap (λ (o : Called). o.values) (answers_wrong i z)),
  λ i z l m. ap eight_of (answers_wrong i z),
)

pub keeps_refusals : (i : Given) → ((promised i).number ≡ 0 → ⊥) → wrong i ≡ promised i
unfolding wrong
keeps_refusals i n = rw (ne_eqb (promised i).number 0 n)
