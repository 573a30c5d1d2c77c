-- What a card makes of a crossed trip point: its fields tell, and they are the entries'. Assumes nothing.
use mathlib.Core.Bool.{Bool, true, false, not}
use mathlib.Core.Path.{◌≡◌, refl, ap, ◌∙◌}
use mathlib.Core.List.{List}
use Prim.Native.Nat.{ℕ, ◌+◌}
use lib.Dec.{eqb}
use lib.ListN.{length}
use Rattle.wire.specs.Little.{number}
use Rattle.wire.specs.Flags.{is_set, bit}
use Rattle.table.specs.Places.{settings_1, settings_2, high_enable, low_enable}
use Rattle.crossed.specs.Crossed.{crossed, crossed_at}
use Rattle.card.specs.Card.{point_1, point_2, enable, point_fields, fields_of, with_card}
use Rattle.card.specs.Asked.{fields_crossed}
use Rattle.card.proofs.Stored.{point_1-stored, point_2-stored}

flag_on : (b : Bool) → not (eqb (bit b) 0) ≡ b
flag_on true = refl
flag_on false = refl

-- the fields that a card shows of a point tell whether it is crossed
pub fields_tell : (values : List ℕ) (at : ℕ) → crossed_at values at ≡ fields_crossed (point_fields values at)
unfolding crossed crossed_at fields_crossed point_fields enable is_set
fields_tell values at = rw (flag_on (not (eqb (number values (at + high_enable) 1) 0)), flag_on (not (eqb (number values (at + low_enable) 1) 0)))

-- after a card's write its own fields tell
module _ (values card : List ℕ) (long : length values ≡ 1024) where
  pub card_1_tells : crossed_at (with_card values card) settings_1 ≡ fields_crossed (fields_of card point_1)
  card_1_tells = fields_tell (with_card values card) settings_1 ∙ ap fields_crossed (point_1-stored values card long)

  pub card_2_tells : crossed_at (with_card values card) settings_2 ≡ fields_crossed (fields_of card point_2)
  card_2_tells = fields_tell (with_card values card) settings_2 ∙ ap fields_crossed (point_2-stored values card long)
