-- Whether a write leaves a trip point crossed, as the code asks it: one law over the point for an entry, one for the card. Assumes nothing.
use mathlib.Core.Path.{◌≡◌, refl, sym, ap₂, ◌∙◌}
use mathlib.Core.Bool.{Bool, true, false, ◌&&◌, ◌||◌}
use mathlib.Core.List.{List}
use Prim.Native.Nat.{ℕ, ◌+◌, ◌<◌}
use native.Mathlib.Omega.{arith}
use lib.Dec.{T, leb, eqb, leb→le}
use lib.Ieee.Bits.{is_true}
use lib.ListN.{length}
use borrow.Author.Tests.{eq-eqb, ne_eqb}
use Rattle.wire.specs.Splice.{splice}
use Rattle.table.specs.Row.{Row, no_row, CARD, COMMAND}
use Rattle.table.specs.Rows.{rows, row_count, at_row}
use Rattle.table.specs.Rule.{pick}
use Rattle.table.specs.Walk.{both, every}
use Rattle.table.specs.Places.{is_mask, of_point_1, of_point_2, settings_1, settings_1_size, settings_2, settings_2_size}
use Rattle.table.proofs.Walks.{every-at, both_left, both_right}
use Rattle.table.proofs.Table.{rows-length}
use Rattle.entry.specs.Entry.{with_entry}
use Rattle.crossed.specs.Crossed.{crossed_at}
use Rattle.crossed.specs.Fitting.{own_or_apart, fitting, Fits}
use Rattle.card.specs.Card.{point_1, point_2, fields_of, with_card}
use Rattle.card.specs.Asked.{fields_crossed}
use Rattle.card.proofs.Crossing.{card_1_tells, card_2_tells}
use Rattle.gauge.specs.Masks.{heeding}
use Rattle.gauge.specs.Among.{among}
use Rattle.gauge.specs.Written.{with_value, crosses, crosses_1, crosses_2}
use Rattle.gauge.proofs.RowTests.{by_place, place_tells, aside, not_these}
use Rattle.gauge.proofs.WrittenLaws.{written_card, written_entry}

-- ---- the rows of a trip point

-- a row lies in the values, and is one of the point's four fields or apart from them
unfoldable pub placed : (Row → Bool) → ℕ → Row → Bool
placed some at r = pick (some r) (both (leb (r.place + r.len) 1024) (fitting at r.place r.len)) true

-- the rows are told by their place, lie so, and are no masks
pub record TripPoint (some : Row → Bool) (at size : ℕ) : Type 0 where
  pub stand : T (every (by_place some at size) rows)
  pub lie : T (every (placed some at) rows)
  pub unmasked : T (every (aside some is_mask) rows)

-- computed for both
pub trip_1 : TripPoint of_point_1 settings_1 settings_1_size
unfolding every by_place among placed aside pick of_point_1 is_mask fitting own_or_apart rows
trip_1 = record { stand = tt; lie = tt; unmasked = tt }

pub trip_2 : TripPoint of_point_2 settings_2 settings_2_size
unfolding every by_place among placed aside pick of_point_2 is_mask fitting own_or_apart rows
trip_2 = record { stand = tt; lie = tt; unmasked = tt }

-- ---- an entry

module _ (some : Row → Bool) (at size : ℕ) (trip : TripPoint some at size) (k : ℕ) (there : k < row_count) where
  is_of : among at size (at_row k).place ≡ some (at_row k)
  is_of = place_tells some at size trip.stand k there

  own-fits : among at size (at_row k).place ≡ true → Fits at (at_row k).place (at_row k).len
  unfolding placed pick
  own-fits e =
      let here : T (both (leb ((at_row k).place + (at_row k).len) 1024) (fitting at (at_row k).place (at_row k).len)) =
      rw (sym is_of ∙ e) at (every-at (placed some at) rows no_row trip.lie k (omega (arith, rows-length))) in
      record { inside = leb→le _ _ (both_left (leb ((at_row k).place + (at_row k).len) 1024) _ here); own = is_true _ (both_right (leb ((at_row k).place + (at_row k).len) 1024) _ here) }

  -- it is judged if it is of this point, by what is spliced in
  own-judged : (values bytes : List ℕ) → ((at_row k).kind ≡ CARD → ⊥)
      → (among at size (at_row k).place && crossed_at (splice values (at_row k).place bytes) at) ≡ crosses some at (at_row k) values bytes
  unfolding crosses heeding with_entry
  own-judged values bytes n = rw (is_of, ne_eqb (at_row k).kind CARD n) (go (some (at_row k)) refl)
    where
      go : (b : Bool) → some (at_row k) ≡ b → (b && crossed_at (splice values (at_row k).place bytes) at) ≡ (b && crossed_at (with_value (at_row k) values bytes) at)
      go true e = rw (written_entry (at_row k) values bytes n, not_these some is_mask trip.unmasked k there e)
      go false e = refl

  -- with the place that was read
  module _ {p : ℕ} (e : p ≡ (at_row k).place) where
    pub entry_fits : {n : ℕ} → n ≡ (at_row k).len → among at size p ≡ true → Fits at p n
    entry_fits m f = rw (e, m) (own-fits (rw e at f))

    pub entry_judged : (values bytes : List ℕ) → ((at_row k).kind ≡ CARD → ⊥) → {b : Bool} → b ≡ (among at size p && crossed_at (splice values p bytes) at) → b ≡ crosses some at (at_row k) values bytes
    entry_judged values bytes n q = q ∙ rw e (own-judged values bytes n)

-- ---- a command

-- computed: no command word is an entry of a trip point
none_commands : (some : Row → Bool) → Type 0
none_commands some = T (every (aside (λ (r : Row). eqb r.kind COMMAND) some) rows)

command_1 : none_commands of_point_1
unfolding none_commands every aside pick of_point_1 rows
command_1 = tt

command_2 : none_commands of_point_2
unfolding none_commands every aside pick of_point_2 rows
command_2 = tt

module _ (k : ℕ) (there : k < row_count) (e : (at_row k).kind ≡ COMMAND) (values bytes : List ℕ) where
  spared : (some : Row → Bool) (at : ℕ) → none_commands some → crosses some at (at_row k) values bytes ≡ false
  unfolding crosses none_commands
  spared some at pass = rw (not_these (λ (r : Row). eqb r.kind COMMAND) some pass k there (rw e), e)

  pub command_unjudged : false ≡ (crosses_1 (at_row k) values bytes || crosses_2 (at_row k) values bytes)
  command_unjudged = sym (ap₂ ◌||◌ (spared of_point_1 settings_1 command_1) (spared of_point_2 settings_2 command_2))

-- ---- the card

module _ (r : Row) (values bytes : List ℕ) (card : r.kind ≡ CARD) where
  judged-whole : (some : Row → Bool) (at : ℕ) → crosses some at r values bytes ≡ crossed_at (with_card values bytes) at
  unfolding crosses
  judged-whole some at = rw (eq-eqb r.kind CARD card, written_card r values bytes card)

  pub card_judged : length values ≡ 1024 → (fields_crossed (fields_of bytes point_1) || fields_crossed (fields_of bytes point_2)) ≡ (crosses_1 r values bytes || crosses_2 r values bytes)
  card_judged long = sym (ap₂ ◌||◌ (judged-whole of_point_1 settings_1 ∙ card_1_tells values bytes long) (judged-whole of_point_2 settings_2 ∙ card_2_tells values bytes long))
