-- The numbers of a block's entries say whether a load leaves a trip point crossed (R3.7, R4.3), whatever the values were. Assumes nothing.
use mathlib.Core.Bool.{Bool, ◌&&◌}
use mathlib.Core.List.{List}
use mathlib.Core.Path.{◌≡◌, refl, sym, ap, ◌∙◌}
use Prim.Native.Nat.{ℕ, ◌+◌, ◌*◌, ◌≤◌, ◌<◌}
use native.Mathlib.Omega.{arith}
use lib.Dec.{lit<, lit≤}
use lib.ListN.{length, get_or, replicate}
use Rattle.bits.proofs.Numbers.{length-bits, small_bits}
use Rattle.bits.specs.Bits.{bits, Small}
use Rattle.block.proofs.RoundTrips.{Shows, load_shows, shown-number}
use Rattle.block.proofs.Turns.{nv_keep, nv_rise, nv-length, used, at-nv}
use Rattle.block.specs.Asked.{saved_numbers, crossed_by, straight_by}
use Rattle.block.specs.Block.{BAG552, nv_rows, load_rows, good}
use Rattle.block.specs.Saved.{saved_rows, loadable, leaves_straight}
use Rattle.crossed.proofs.CrossedLaws.{numbers_are}
use Rattle.crossed.specs.Crossed.{crossed_at, straight}
use Rattle.table.specs.Places.{settings_1, settings_2, high_enable, low_enable, high_level, low_level}
use Rattle.table.specs.Row.{REAL}
use Rattle.table.specs.Rows.{rows, nv_count, nv_point_1, nv_point_2, nv_high_enable, nv_low_enable, nv_high_level, nv_low_level}
use Rattle.wire.specs.Little.{number}

-- NV row j is a number of so many bytes at a place
abbrev Holds : ℕ → ℕ → ℕ → Type 0
Holds j place len = (j < nv_count) × ((at-nv j).kind ≤ REAL) × ((at-nv j).place ≡ place) × ((at-nv j).len ≡ len)

-- ---- values that have the entries of the bits

module _ (bs : List ℕ) (sm : Small bs) (lb : length bs ≡ 4096) where
  module _ (values : List ℕ) (s : Shows bs 8 saved_rows values) where
    number-shown : (j place len : ℕ) → Holds j place len → get_or (saved_numbers bs 8 saved_rows) j 0 ≡ number values place len
    number-shown j place len h =
        let there : j < nv_count = h.0 in
        sym (shown-number bs sm saved_rows 8 values nv_keep (omega (arith, used)) s j (omega (arith, nv-length)) h.1) ∙ rw (h.2, h.3)

    point_shown : (first at : ℕ) → Holds (first + nv_high_enable) (at + high_enable) 1 → Holds (first + nv_low_enable) (at + low_enable) 1
        → Holds (first + nv_high_level) (at + high_level) 4 → Holds (first + nv_low_level) (at + low_level) 4
        → crossed_by (saved_numbers bs 8 saved_rows) first ≡ crossed_at values at
    unfolding crossed_by
    point_shown first at a b c d = numbers_are values at (number-shown _ _ _ a) (number-shown _ _ _ b) (number-shown _ _ _ c) (number-shown _ _ _ d)

    point_1 : crossed_by (saved_numbers bs 8 saved_rows) nv_point_1 ≡ crossed_at values settings_1
    unfolding rows nv_rows
    point_1 =
        point_shown nv_point_1 settings_1 (lit< tt, lit≤ tt, refl, refl) (lit< tt, lit≤ tt, refl, refl) (lit< tt, lit≤ tt, refl, refl) (lit< tt, lit≤ tt, refl, refl)

    point_2 : crossed_by (saved_numbers bs 8 saved_rows) nv_point_2 ≡ crossed_at values settings_2
    unfolding rows nv_rows
    point_2 =
        point_shown nv_point_2 settings_2 (lit< tt, lit≤ tt, refl, refl) (lit< tt, lit≤ tt, refl, refl) (lit< tt, lit≤ tt, refl, refl) (lit< tt, lit≤ tt, refl, refl)

    shown-straight : straight_by (saved_numbers bs 8 saved_rows) ≡ straight values
    unfolding straight_by straight
    shown-straight = rw (point_1, point_2)

  -- after a load
  straight-after : (values : List ℕ) → length values ≡ 1024 → straight_by (saved_numbers bs 8 saved_rows) ≡ straight (load_rows bs 8 saved_rows values)
  straight-after values n = shown-straight (load_rows bs 8 saved_rows values) (load_shows bs saved_rows 0 8 values nv_keep nv_rise n)

-- ---- a block

module _ (block : List ℕ) (lb : length block ≡ 512) (values : List ℕ) (n : length values ≡ 1024) where
  bits_long : length (bits block) ≡ 4096
  bits_long = length-bits block ∙ ap (λ (k : ℕ). 8 * k) lb

  -- the numbers that are known of all entries
  pub straight_known : {numbers : List ℕ} → numbers ≡ saved_numbers (bits block) 8 saved_rows → straight_by numbers ≡ leaves_straight block values
  straight_known known = ap straight_by known ∙ straight-after (bits block) (small_bits block) bits_long values n

  -- over any values it is the same
  pub loadable-over : loadable block ≡ (good BAG552 (bits block) saved_rows && leaves_straight block values)
  unfolding loadable
  loadable-over =
      ap (λ (b : Bool). good BAG552 (bits block) saved_rows && b)
      (sym (straight-after (bits block) (small_bits block) bits_long (replicate 1024 0) refl) ∙ straight-after (bits block) (small_bits block) bits_long values n)
