-- THE STATE BYTES GIVE BACK WHAT WAS WRITTEN: a record, the trip states and the form of line 0 are read back, and what stands beside them is left alone.
use Prim.Native.Nat.{ℕ, ◌+◌, ◌≤◌, ◌<◌}
use native.Mathlib.Omega.{arith}
use mathlib.Core.Path.{◌≡◌, refl, sym, ap, ◌∙◌}
use mathlib.Core.Logic.{◌⊎◌, inl, inr}
use mathlib.Core.Bool.{Bool, not}
use mathlib.Core.List.{List, ◌++◌, append_assoc}
use lib.Dec.{eqb}
use lib.ListN.{length, take, drop, length-append, length-drop}
use lib.Seq.{take_at, drop_at, drop-drop, length-take-le, drop-append-le, take-append-le}
use borrow.Author.Tests.{le-leb}
use Rattle.wire.specs.Splice.{splice}
use Rattle.wire.specs.Little.{little, from_little, number}
use Rattle.wire.specs.Flags.{is_set, bit}
use Rattle.wire.proofs.SpliceLaws.{is_apart, part_apart}
use Rattle.wire.proofs.LittleLaws.{length-little, from_little-little, number-apart}
use Rattle.wire.proofs.FlagLaws.{set_back}
use Rattle.trip.specs.declared.Trips.{Trips}
use Rattle.transfer.specs.declared.Direction.{Direction}
use Rattle.transfer.specs.declared.Direction.TheVariants.{Neither, Reads, Writes}
use Rattle.transfer.specs.declared.Transfer.{Transfer}
use Rattle.transfer.proofs.RecordLaws.{Whole, Small}
use Rattle.state.specs.State.{state_size, record_size, direction_of, direction_byte, record_at, record_tail, record_bytes, trips_place, trips_at, trips_bytes, form_place, form_at, form_bytes}

-- ---- parts of what was written

-- a part of the part that was written
part-inside : (s : List ℕ) (at : ℕ) (vs : List ℕ) (k n : ℕ) → at ≤ length s → k + n ≤ length vs → take n (drop (at + k) (splice s at vs)) ≡ take n (drop k vs)
unfolding splice
part-inside s at vs k n h q =
    let rest : List ℕ = drop (at + length vs) s in
    ap (take n)
    (sym (drop-drop k at (take at s ++ (vs ++ rest)))
    ∙ ap (drop k) (drop_at (take at s) (vs ++ rest) at (length-take-le at s h))
    ∙ drop-append-le k vs rest (omega arith))
    ∙ take-append-le n (drop k vs) rest (omega (arith, length-drop k vs))

number-inside : (s : List ℕ) (at : ℕ) (vs : List ℕ) (k n : ℕ) → at ≤ length s → k + n ≤ length vs → number (splice s at vs) (at + k) n ≡ number vs k n
unfolding number
number-inside s at vs k n h q = ap from_little (part-inside s at vs k n h q)

-- ---- a record

fields : {h h' : List ℕ} {r r' l l' p p' : ℕ} {d d' : Direction} {u u' : Bool} → h ≡ h' → r ≡ r' → d ≡ d' → l ≡ l' → p ≡ p' → u ≡ u'
    → ◌≡◌ {A = Transfer} (record { held = h; row = r; direction = d; len = l; place = p; toggle = u }) (record { held = h'; row = r'; direction = d'; len = l'; place = p'; toggle = u' })
fields eh er ed el ep eu = rw (eh, er, ed, el, ep, eu)

tail_long : (t : Transfer) → length (record_tail t) ≡ 6
unfolding record_tail
tail_long t = simp (length-append, length-little)

pub record_long : (t : Transfer) → Whole t → length (record_bytes t) ≡ record_size
unfolding record_bytes
record_long t w = length-append t.held (record_tail t) ∙ omega (arith, tail_long t)

direction_back : (d : Direction) → direction_of (from_little (little 1 (direction_byte d))) ≡ d
unfolding direction_of direction_byte little from_little
direction_back Neither = refl
direction_back Reads = refl
direction_back Writes = refl

module _ (s : List ℕ) (at : ℕ) (t : Transfer) (w : Whole t) (small : Small t) (room : at + record_size ≤ length s) where
  abbrev written : List ℕ
  written = splice s at (record_bytes t)

  held_back : take 64 (drop at written) ≡ t.held
  unfolding splice record_bytes
  held_back =
      ap (take 64) (drop_at (take at s) (record_bytes t ++ drop (at + length (record_bytes t)) s) at (length-take-le at s (omega arith)) ∙ append_assoc t.held (record_tail t) _)
      ∙ take_at t.held _ 64 w

  tail_back : (k n : ℕ) → k + n ≤ 6 → number written (at + (64 + k)) n ≡ number (record_tail t) k n
  unfolding number record_bytes
  tail_back k n h =
      number-inside s at (record_bytes t) (64 + k) n (omega arith) (rw (record_long t w) (omega arith))
      ∙ ap (λ (l : List ℕ). from_little (take n l)) (sym (drop-drop k 64 (t.held ++ record_tail t)) ∙ ap (drop k) (drop_at t.held (record_tail t) 64 w))

  -- LAW: the record that was written is read back
  pub record_back : record_at written at ≡ t
  unfolding record_at record_tail number little
  record_back =
      fields held_back
      (tail_back 0 2 (omega arith) ∙ from_little-little 2 t.row small.row_fits)
      (ap direction_of (tail_back 2 1 (omega arith)) ∙ direction_back t.direction)
      (tail_back 3 1 (omega arith) ∙ from_little-little 1 t.len small.len-fits)
      (tail_back 4 1 (omega arith) ∙ from_little-little 1 t.place small.place-fits)
      (set_back written (at + 69) t.toggle (tail_back 5 1 (omega arith)))

-- LAW: a record is left alone by what is written beside it
pub record_beside : (s : List ℕ) (p : ℕ) (vs : List ℕ) (at : ℕ) → p ≤ length s → (p + length vs ≤ at) ⊎ (at + record_size ≤ p) → record_at (splice s p vs) at ≡ record_at s at
unfolding record_at is_set
record_beside s p vs at h b =
    fields (part_apart s p vs (le-leb p (length s) h) at 64 (is_apart p (length vs) at 64 (first b)))
    (at_field 64 2 (omega arith))
    (ap direction_of (at_field 66 1 (omega arith)))
    (at_field 67 1 (omega arith))
    (at_field 68 1 (omega arith))
    (ap (λ (n : ℕ). not (eqb n 0)) (at_field 69 1 (omega arith)))
  where
    from : (k n : ℕ) → k + n ≤ record_size → (p + length vs ≤ at) ⊎ (at + record_size ≤ p) → (p + length vs ≤ at + k) ⊎ (at + k + n ≤ p)
    from k n q (inl x) = inl (omega arith)
    from k n q (inr x) = inr (omega arith)

    first : (p + length vs ≤ at) ⊎ (at + record_size ≤ p) → (p + length vs ≤ at) ⊎ (at + 64 ≤ p)
    first (inl x) = inl x
    first (inr x) = inr (omega arith)

    at_field : (k n : ℕ) → k + n ≤ record_size → number (splice s p vs) (at + k) n ≡ number s (at + k) n
    at_field k n q = number-apart s p vs (at + k) n (le-leb p (length s) h) (is_apart p (length vs) (at + k) n (from k n q b))

-- ---- the trip states

sides : {a a' b b' c c' d d' : Bool} → a ≡ a' → b ≡ b' → c ≡ c' → d ≡ d'
    → ◌≡◌ {A = Trips} (record { one = record { high = a; low = b }; two = record { high = c; low = d } }) (record { one = record { high = a'; low = b' }; two = record { high = c'; low = d' } })
sides ea eb ec ed = rw (ea, eb, ec, ed)

pub trips_long : (t : Trips) → length (trips_bytes t) ≡ 4
unfolding trips_bytes
trips_long t = simp (length-append, length-little)

-- LAW: the trip states that were written are read back
pub trips-back : (s : List ℕ) (t : Trips) → length s ≡ state_size → trips_at (splice s trips_place (trips_bytes t)) ≡ t
unfolding trips_at from_little number little trips_bytes
trips-back s t e = sides (side 0 t.one.high (omega arith) refl) (side 1 t.one.low (omega arith) refl) (side 2 t.two.high (omega arith) refl) (side 3 t.two.low (omega arith) refl)
  where
    side : (k : ℕ) (b : Bool) → k + 1 ≤ 4 → number (trips_bytes t) k 1 ≡ from_little (little 1 (bit b)) → is_set (splice s trips_place (trips_bytes t)) (trips_place + k) ≡ b
    side k b h q = set_back _ (trips_place + k) b (number-inside s trips_place (trips_bytes t) k 1 (omega arith) (rw (trips_long t) h) ∙ q)

-- ---- what is written beside a flag leaves it alone

flag_beside : (s : List ℕ) (p : ℕ) (vs : List ℕ) (at : ℕ) → p ≤ length s → (p + length vs ≤ at) ⊎ (at + 1 ≤ p) → is_set (splice s p vs) at ≡ is_set s at
unfolding is_set
flag_beside s p vs at h b = ap (λ (n : ℕ). not (eqb n 0)) (number-apart s p vs at 1 (le-leb p (length s) h) (is_apart p (length vs) at 1 b))

-- LAW: the trip states are left alone by what is written before them or behind them
pub trips_beside : (s : List ℕ) (p : ℕ) (vs : List ℕ) → p ≤ length s → (p + length vs ≤ trips_place) ⊎ (trips_place + 4 ≤ p) → trips_at (splice s p vs) ≡ trips_at s
unfolding trips_at
trips_beside s p vs h b = sides (side 0 (omega arith)) (side 1 (omega arith)) (side 2 (omega arith)) (side 3 (omega arith))
  where
    from : (k : ℕ) → k < 4 → (p + length vs ≤ trips_place) ⊎ (trips_place + 4 ≤ p) → (p + length vs ≤ trips_place + k) ⊎ (trips_place + k + 1 ≤ p)
    from k q (inl x) = inl (omega arith)
    from k q (inr x) = inr (omega arith)

    side : (k : ℕ) → k < 4 → is_set (splice s p vs) (trips_place + k) ≡ is_set s (trips_place + k)
    side k q = flag_beside s p vs (trips_place + k) h (from k q b)

-- ---- the form of line 0

-- LAW: the form is left alone by what is written before it
pub form_beside : (s : List ℕ) (p : ℕ) (vs : List ℕ) → p ≤ length s → p + length vs ≤ form_place → form_at (splice s p vs) ≡ form_at s
unfolding form_at
form_beside s p vs h b = flag_beside s p vs form_place h (inl b)

pub form_long : (boxed : Bool) → length (form_bytes boxed) ≡ 1
form_long boxed = length-little 1 (bit boxed)

-- LAW: the form that was written is read back
pub form-back : (s : List ℕ) (boxed : Bool) → length s ≡ state_size → form_at (splice s form_place (form_bytes boxed)) ≡ boxed
unfolding form_at from_little number little
form-back s boxed e = set_back _ form_place boxed (number-inside s form_place (form_bytes boxed) 0 1 (omega arith) (rw (form_long boxed) (omega arith)))
