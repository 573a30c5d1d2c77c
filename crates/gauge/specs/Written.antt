-- RULE: the values after an accepted write that is no command, and whether it leaves a trip point crossed. Assumes nothing.
use Rattle.std.specs.Prelude.{Bool, cond, ◌&&◌, ◌||◌, List, ℕ, eqb}
use Rattle.table.specs.Row.{Row, CARD}
use Rattle.table.specs.Places.{is_mask, of_point_1, of_point_2, settings_1, settings_2}
use Rattle.entry.specs.Entry.{with_entry}
use Rattle.card.specs.Card.{with_card}
use Rattle.crossed.specs.Crossed.{crossed_at}
use Rattle.gauge.specs.Masks.{heeding}

-- the card goes into the trip entries, all else is stored; a mask acts at once (R11.4)
unfoldable pub with_value : Row → List ℕ → List ℕ → List ℕ
with_value r values bytes = cond (eqb r.kind CARD) (with_card values bytes) (heeding (is_mask r) (with_entry r values bytes))

-- the card, or an entry of a trip point, and that point is crossed after the write (R3.8)
unfoldable pub crosses : (Row → Bool) → ℕ → Row → List ℕ → List ℕ → Bool
crosses of-point at r values bytes = (eqb r.kind CARD || of-point r) && crossed_at (with_value r values bytes) at

abbrev pub crosses_1 : Row → List ℕ → List ℕ → Bool
crosses_1 r values bytes = crosses of_point_1 settings_1 r values bytes

abbrev pub crosses_2 : Row → List ℕ → List ℕ → Bool
crosses_2 r values bytes = crosses of_point_2 settings_2 r values bytes
