-- Computed tests over the rows: an entry is known by its place; rows of one kind are none of another. Assumes nothing.
use mathlib.Core.Path.{◌≡◌, refl, ap, ◌∙◌}
use mathlib.Core.Bool.{Bool, true, false, not}
use Prim.Native.Nat.{ℕ, ◌<◌}
use native.Mathlib.Omega.{arith}
use lib.Dec.{T}
use Rattle.table.specs.Row.{Row, no_row}
use Rattle.table.specs.Rows.{rows, row_count, at_row}
use Rattle.table.specs.Rule.{pick}
use Rattle.table.specs.Walk.{every}
use Rattle.table.specs.Places.{masks, masks_size, is_mask}
use Rattle.table.proofs.Walks.{every-at}
use Rattle.table.proofs.Table.{rows-length}
use Rattle.gauge.specs.Among.{among}

-- ---- a place is among some bytes where the row is one of some, and only there

agree : Bool → Bool → Bool
agree true b = b
agree false b = not b

agreed : (a b : Bool) → T (agree a b) → a ≡ b
unfolding agree
agreed true true t = refl
agreed true false t = absurd t
agreed false true t = absurd t
agreed false false t = refl

unfoldable pub by_place : (Row → Bool) → ℕ → ℕ → Row → Bool
unfolding agree
by_place some at size r = agree (among at size r.place) (some r)

pub place_tells : (some : Row → Bool) (at size : ℕ) → T (every (by_place some at size) rows) → (k : ℕ) → k < row_count → among at size (at_row k).place ≡ some (at_row k)
unfolding by_place
place_tells some at size pass k h = agreed _ _ (every-at (by_place some at size) rows no_row pass k (omega (arith, rows-length)))

masks_stand : T (every (by_place is_mask masks masks_size) rows)
unfolding every by_place among is_mask rows
masks_stand = tt

pub mask_told : (k : ℕ) → k < row_count → {p : ℕ} {b : Bool} → p ≡ (at_row k).place → b ≡ among masks masks_size p → b ≡ is_mask (at_row k)
mask_told k h e q = q ∙ ap (among masks masks_size) e ∙ place_tells is_mask masks masks_size masks_stand k h

-- ---- no row that is one of some is one of these

unfoldable pub aside : (Row → Bool) → (Row → Bool) → Row → Bool
aside some these r = pick (some r) (pick (these r) false true) true

module _ (some these : Row → Bool) (pass : T (every (aside some these) rows)) where
  pub not_these : (j : ℕ) → j < row_count → some (at_row j) ≡ true → these (at_row j) ≡ false
  unfolding aside pick
  not_these j h e = go (these (at_row j)) (rw e at (every-at (aside some these) rows no_row pass j (omega (arith, rows-length))))
    where
      go : (b : Bool) → T (pick b false true) → b ≡ false
      go true t = absurd t
      go false t = refl
