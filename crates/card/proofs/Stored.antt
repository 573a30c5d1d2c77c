-- What a card's write leaves: the values' length, its fields in the twelve entries, every other byte. Assumes nothing.
use mathlib.Core.Bool.{Bool, true, not, ◌&&◌, and-eq-true_iff}
use mathlib.Core.Path.{◌≡◌, refl, ◌∙◌}
use mathlib.Core.List.{List, [], ◌∷◌}
use Prim.Native.Nat.{ℕ, zero, suc, ◌+◌, ◌<◌}
use native.Mathlib.Omega.{arith}
use lib.Dec.{leb, eqb}
use lib.ListN.{length, take, drop, get_or}
use borrow.Author.Tests.{leb-true, le-leb}
use Rattle.wire.specs.Splice.{apart}
use Rattle.wire.specs.Little.{little, from_little, number, put_number}
use Rattle.wire.specs.Flags.{is_set, bit}
use Rattle.wire.proofs.SpliceLaws.{part_apart}
use Rattle.wire.proofs.LittleLaws.{length-little, from_little-little, put_length}
use Rattle.wire.proofs.Writes.{Write, write, written, within, tidy, shown, written-length, number-shown}
use Rattle.bits.specs.Fields.{decode}
use Rattle.table.specs.Places.{settings_1, settings_2, high_enable, low_enable, high_level, low_level, high_hysteresis, low_hysteresis}
use Rattle.card.specs.Card.{point_1, point_2, enable, point_fields, fields_of, with_point, with_card}
use Rattle.card.proofs.Fields.{fields_lt}

-- ---- bytes that no write touches

-- each write is apart from the m bytes from q on
abbrev pub clear : List Write → ℕ → ℕ → Bool
clear [] q m = true
clear (w ∷ ws) q m = apart w.place w.width q m && clear ws q m

written_beside : (ws : List Write) (l : List ℕ) (n q m : ℕ) → length l ≡ n → within n ws ≡ true → clear ws q m ≡ true → take m (drop q (written l ws)) ≡ take m (drop q l)
written_beside [] l n q m h k t = refl
written_beside (w ∷ ws) l n q m h k t =
    let room = (and-eq-true_iff (leb (w.place + w.width) n) _).0 k in
    let x : List ℕ = little w.width w.holds in
    let far = (and-eq-true_iff (apart w.place w.width q m) _).0 t in
    let fit : leb w.place (length l) ≡ true = le-leb w.place (length l) (omega (arith, leb-true (w.place + w.width) n room.0)) in
    written_beside ws (put_number l w.place w.width w.holds) n q m (put_length l w.place w.width w.holds (rw h room.0) ∙ h) room.1 far.1
    ∙ part_apart l w.place x fit q m (rw length-little far.0)

-- ---- a card as twelve writes

abbrev pub point_writes : ℕ → List ℕ → List Write → List Write
point_writes at fields ws =
    write (at + high_enable) 1 (get_or fields 0 0) ∷
    write (at + low_enable) 1 (get_or fields 1 0) ∷
    write (at + high_level) 4 (get_or fields 2 0) ∷
    write (at + high_hysteresis) 4 (get_or fields 3 0) ∷
    write (at + low_level) 4 (get_or fields 4 0) ∷
    write (at + low_hysteresis) 4 (get_or fields 5 0) ∷
    ws

abbrev pub card_writes : List ℕ → List Write
card_writes card = point_writes settings_1 (fields_of card point_1) (point_writes settings_2 (fields_of card point_2) [])

card_written : (values card : List ℕ) → with_card values card ≡ written values (card_writes card)
unfolding with_card with_point
card_written values card = refl

-- a field that is one bit comes back from its byte
pub flag_back : (v : ℕ) → v < 2 → bit (not (eqb v 0)) ≡ v
flag_back zero h = refl
flag_back (suc zero) h = refl
flag_back (suc (suc v)) h = absurd (omega arith)

enable-back : (l : List ℕ) (at v : ℕ) → number l at 1 ≡ from_little (little 1 v) → v < 2 → enable l at ≡ v
unfolding enable is_set
enable-back l at v e h = rw (e, from_little-little 1 v (omega arith)) (flag_back v h)

-- six fields are their list
six : (card : List ℕ) (at : ℕ) → let f = fields_of card at in get_or f 0 0 ∷ get_or f 1 0 ∷ get_or f 2 0 ∷ get_or f 3 0 ∷ get_or f 4 0 ∷ get_or f 5 0 ∷ [] ≡ f
unfolding fields_of decode
six card at = refl

-- a point's entries that hold a card's fields show them
point_back : (l : List ℕ) (at : ℕ) (card : List ℕ) (point : ℕ) → let f = fields_of card point in
    number l (at + high_enable) 1 ≡ from_little (little 1 (get_or f 0 0)) → number l (at + low_enable) 1 ≡ from_little (little 1 (get_or f 1 0))
    → number l (at + high_level) 4 ≡ from_little (little 4 (get_or f 2 0)) → number l (at + high_hysteresis) 4 ≡ from_little (little 4 (get_or f 3 0))
    → number l (at + low_level) 4 ≡ from_little (little 4 (get_or f 4 0)) → number l (at + low_hysteresis) 4 ≡ from_little (little 4 (get_or f 5 0))
    → point_fields l at ≡ f
unfolding point_fields
point_back l at card point a b c d e f =
    let lt = fields_lt card point in
    rw (enable-back l (at + high_enable) _ a (lt 0), enable-back l (at + low_enable) _ b (lt 1), c, d, e, f, from_little-little 4 _ (lt 2), from_little-little 4 _ (lt 3), from_little-little 4 _ (lt 4), from_little-little 4 _ (lt 5)) (six card point)

module _ (values card : List ℕ) (long : length values ≡ 1024) where
  pub with_card-length : length (with_card values card) ≡ 1024
  with_card-length = rw card_written (written-length (card_writes card) values 1024 long refl)

  -- bytes apart from the twelve entries stay
  pub with_card_beside : (q m : ℕ) → clear (card_writes card) q m ≡ true → take m (drop q (with_card values card)) ≡ take m (drop q values)
  with_card_beside q m t = rw card_written (written_beside (card_writes card) values 1024 q m long refl t)

  after : (q m : ℕ) → tidy (card_writes card) q m ≡ true → number (with_card values card) q m ≡ shown (card_writes card) q m (number values q m)
  after q m t = rw card_written (number-shown (card_writes card) values 1024 q m long refl t)

  -- the entries hold the card's fields
  pub point_1-stored : point_fields (with_card values card) settings_1 ≡ fields_of card point_1
  point_1-stored = point_back (with_card values card) settings_1 card point_1 (after _ 1 refl) (after _ 1 refl) (after _ 4 refl) (after _ 4 refl) (after _ 4 refl) (after _ 4 refl)

  pub point_2-stored : point_fields (with_card values card) settings_2 ≡ fields_of card point_2
  point_2-stored = point_back (with_card values card) settings_2 card point_2 (after _ 1 refl) (after _ 1 refl) (after _ 4 refl) (after _ 4 refl) (after _ 4 refl) (after _ 4 refl)
