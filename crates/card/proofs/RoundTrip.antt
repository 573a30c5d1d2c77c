-- THE CARD THERE AND BACK: what was written is read at every bit, and writing what was read changes nothing. Assumes nothing.
use mathlib.Core.Bool.{Bool, true, false, cond}
use mathlib.Core.Path.{◌≡◌, refl, sym, ap, ◌∙◌}
use mathlib.Core.List.{List, [], ◌++◌, append-nil}
use Prim.Native.Nat.{ℕ, ◌+◌, ◌≤◌}
use native.Mathlib.Omega.{arith}
use Rattle.std.specs.Prelude.{Ok, Err}
use lib.Dec.{eqb}
use lib.ListN.{length, take, drop, length-drop, drop_of_length-le, take-append-drop}
use lib.Seq.{drop-drop, length-take-le}
use borrow.Author.Tests.{eqb-true}
use Rattle.wire.specs.Splice.{splice}
use Rattle.wire.specs.Little.{number, put_number}
use Rattle.wire.specs.Flags.{is_set}
use Rattle.wire.proofs.SpliceLaws.{splice-own}
use Rattle.wire.proofs.LittleLaws.{Bytes, little-number}
use Rattle.bits.specs.Bits.{msb, bits, field, packed, Small}
use Rattle.bits.specs.Fields.{encode, decode, total}
use Rattle.bits.proofs.Numbers.{length-bits, msb-num, small_bits, small_take, small_drop, bytes_of}
use Rattle.bits.proofs.Packing.{encode-decode}
use Rattle.table.specs.Places.{settings_1, settings_2, high_enable, low_enable, high_level, low_level, high_hysteresis, low_hysteresis}
use Rattle.limits.specs.Limits.{Verdict, within}
use Rattle.limits.specs.declared.Outside.TheVariants.{NotANumber}
use Rattle.card.specs.Card.{layout, point_widths, point_1, point_2, enable, point_fields, point_bits, card_bits, card_of, fields_of, layout_verdict, first_bad, point_verdict, card_verdict, with_point, with_card}
use Rattle.card.proofs.Shown.{point_1-shown, point_2-shown}
use Rattle.card.proofs.Stored.{flag_back, point_1-stored, point_2-stored}

-- ---- what `within` says of a card

pub first_within : (a b : Verdict) → first_bad a b ≡ within → (a ≡ within) × (b ≡ within)
unfolding first_bad
first_within (Ok u) b e = (refl, e)
first_within (Err o) b e = absurd cc

right-layout : (v : ℕ) → layout_verdict v ≡ within → v ≡ layout
unfolding layout_verdict
right-layout v e = go (eqb v layout) refl e
  where
    go : (b : Bool) → eqb v layout ≡ b → cond b within (Err NotANumber) ≡ within → v ≡ layout
    go true t e = eqb-true v layout t
    go false t e = absurd cc

pub card_layout : (card : List ℕ) → card_verdict card ≡ within → field (bits card) 0 4 ≡ layout
unfolding card_verdict
card_layout card e = right-layout _ (first_within _ _ e).0

-- ---- a card of layout 1 is its fields

card_parts : (card : List ℕ) → length card ≡ 33 → field (bits card) 0 4 ≡ layout → msb 4 layout ++ (encode point_widths (fields_of card point_1) ++ encode point_widths (fields_of card point_2)) ≡ bits card
unfolding field fields_of total
card_parts card n e =
    let B : List ℕ = bits card in
    let s : Small B = small_bits card in
    let l : length B ≡ 264 = length-bits card ∙ rw n in
    let z : drop 264 B ≡ [] = drop_of_length-le B {i = 264} (omega arith) in
    let A : msb 4 layout ≡ take 4 B = ap (msb 4) (sym e) ∙ msb-num 4 (take 4 B) (small_take 4 B s) (length-take-le 4 B (omega arith)) in
    let P : encode point_widths (decode point_widths (drop 4 B)) ++ drop 130 (drop 4 B) ≡ drop 4 B = encode-decode point_widths (drop 4 B) (small_drop 4 B s) (omega (arith, length-drop 4 B)) in
    let Q : encode point_widths (decode point_widths (drop 134 B)) ++ drop 130 (drop 134 B) ≡ drop 134 B = encode-decode point_widths (drop 134 B) (small_drop 134 B s) (omega (arith, length-drop 134 B)) in
    let q : encode point_widths (decode point_widths (drop 134 B)) ≡ drop 134 B = sym (append-nil _) ∙ (rw (drop-drop 130 134 B, z) at Q) in
    rw (A, q, ← drop-drop 130 4 B, P) (take-append-drop 4 B)

-- the enable bytes of a point are 0 or 1
pub record Flags (values : List ℕ) (at : ℕ) : Type 0 where
  pub high : number values (at + high_enable) 1 ≤ 1
  pub low : number values (at + low_enable) 1 ≤ 1

module _ (values card : List ℕ) (long : length values ≡ 1024) (size : length card ≡ 33) where
  -- READING BACK WHAT WAS WRITTEN gives the card, at every bit
  pub card_back : Bytes card → card_verdict card ≡ within → card_of (with_card values card) ≡ card
  unfolding card_of card_bits point_bits
  card_back bytes fine =
      ap (λ (l : List ℕ). packed 33 l)
      (rw (point_1-stored values card long, point_2-stored values card long) (card_parts card size (card_layout card fine)))
      ∙ (rw size at (bytes_of card bytes))

  -- and the entries that it wrote are as good as the card
  pub card_stored_within : card_verdict card ≡ within → (point_verdict (point_fields (with_card values card) settings_1) ≡ within) × (point_verdict (point_fields (with_card values card) settings_2) ≡ within)
  unfolding card_verdict
  card_stored_within fine = rw (point_1-stored values card long, point_2-stored values card long) (first_within _ _ (first_within _ _ fine).1)

-- ---- writing what was read

-- what stands there already
put_own : (l : List ℕ) → Bytes l → (at n : ℕ) → at + n ≤ length l → put_number l at n (number l at n) ≡ l
put_own l h at n room = ap (splice l at) (little-number l at n h room) ∙ splice-own l at n room

enable-own : (l : List ℕ) (at : ℕ) → number l at 1 ≤ 1 → enable l at ≡ number l at 1
unfolding enable is_set
enable-own l at h = flag_back (number l at 1) (omega arith)

point_own : (values : List ℕ) (at : ℕ) → Bytes values → at + 34 ≤ length values → Flags values at → with_point values at (point_fields values at) ≡ values
unfolding with_point point_fields
point_own values at bytes room flags =
    let own = put_own values bytes in
    rw (enable-own values (at + high_enable) flags.high, enable-own values (at + low_enable) flags.low, own (at + high_enable) 1 (omega arith), own (at + low_enable) 1 (omega arith), own (at + high_level) 4 (omega arith), own (at + high_hysteresis) 4 (omega arith), own (at + low_level) 4 (omega arith), own (at + low_hysteresis) 4 (omega arith))

-- WRITING BACK WHAT WAS READ leaves the values as they were
pub card_own : (values : List ℕ) → length values ≡ 1024 → Bytes values → Flags values settings_1 → Flags values settings_2 → with_card values (card_of values) ≡ values
unfolding with_card
card_own values long bytes one two =
    rw (point_1-shown values bytes, point_2-shown values bytes, point_own values settings_1 bytes (omega arith) one) (point_own values settings_2 bytes (omega arith) two)
