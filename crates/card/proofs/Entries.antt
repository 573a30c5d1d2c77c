-- The card and the rows of the object table: whose limits judge a level, and which rows a card's write leaves. Each is one computed test over the table. Assumes nothing.
use mathlib.Core.Bool.{Bool, true, false, ◌&&◌, ◌||◌}
use mathlib.Core.Path.{◌≡◌}
use mathlib.Core.List.{List}
use Prim.Native.Nat.{ℕ, ◌<◌}
use native.Mathlib.Omega.{arith}
use lib.Dec.{T, eqb, eqb→eq}
use lib.Ieee.Bits.{is_true}
use lib.ListN.{length}
use Rattle.table.specs.Row.{Row, no_row, REAL}
use Rattle.table.specs.Rows.{rows, row_count, at_row}
use Rattle.table.specs.Rule.{pick, held}
use Rattle.table.specs.Walk.{both, every}
use Rattle.table.proofs.Walks.{every-at, both_left, both_right}
use Rattle.table.proofs.Table.{rows-length}
use Rattle.entry.specs.Entry.{entry_of}
use Rattle.limits.specs.Limits.{number_verdict}
use Rattle.card.specs.Card.{level_verdict, with_card}
use Rattle.card.proofs.Stored.{card_writes, clear, with_card_beside}

-- the settings of the trip points are the objects 800E and 800F
abbrev settings : Row → Bool
settings r = eqb r.index 0x800E || eqb r.index 0x800F

-- their enables, and their levels and hystereses
unfoldable pub trip_enable : Row → Bool
trip_enable r = settings r && (eqb r.sub 0x01 || eqb r.sub 0x02)

unfoldable pub trip_level : Row → Bool
trip_level r = settings r && (eqb r.sub 0x11 || (eqb r.sub 0x14 || (eqb r.sub 0x17 || eqb r.sub 0x18)))

-- ---- limits

level_ok : Row → Bool
level_ok r = pick (trip_level r) (both (eqb r.kind REAL) (both (eqb r.low 0) (eqb r.high 0x44BB8000))) true

levels_pass : T (every level_ok rows)
unfolding rows every level_ok trip_level pick
levels_pass = tt

-- a level or hysteresis of a card is judged as the table's rows of levels and hystereses judge it
pub level-judged : (k : ℕ) → k < row_count → trip_level (at_row k) ≡ true → (v : ℕ) → number_verdict (at_row k) v ≡ level_verdict v
unfolding level_verdict number_verdict level_ok pick
level-judged k h e v =
    let r = at_row k in
    let t : T (both (eqb r.kind REAL) (both (eqb r.low 0) (eqb r.high 0x44BB8000))) = rw e at (every-at level_ok rows no_row levels_pass k (omega (arith, rows-length))) in
    let u = both_right (eqb r.kind REAL) _ t in
    rw (eqb→eq r.kind REAL (both_left (eqb r.kind REAL) _ t), eqb→eq r.low 0 (both_left (eqb r.low 0) _ u), eqb→eq r.high 0x44BB8000 (both_right (eqb r.low 0) _ u))

-- ---- the other rows

beside_ok : List ℕ → Row → Bool
beside_ok card r = pick (trip_enable r || trip_level r) true (clear (card_writes card) r.place (held r))

all_beside : (card : List ℕ) → T (every (beside_ok card) rows)
unfolding rows every beside_ok trip_enable trip_level held pick
all_beside card = tt

-- a card's write leaves every other row
pub with_card_other : (values card : List ℕ) → length values ≡ 1024 → (k : ℕ) → k < row_count → trip_enable (at_row k) || trip_level (at_row k) ≡ false → entry_of (at_row k) (with_card values card) ≡ entry_of (at_row k) values
unfolding entry_of beside_ok pick
with_card_other values card long k h e =
    with_card_beside values card long (at_row k).place (held (at_row k))
    (is_true _ (rw e at (every-at (beside_ok card) rows no_row (all_beside card) k (omega (arith, rows-length)))))
