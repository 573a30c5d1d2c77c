-- THE SAVED BLOCK of the BAG552: a load after a store leaves every NV entry as it was, a store after a load gives the same 512
-- bytes, a faulty block changes nothing, no trip point is crossed in what is stored or loaded, and an entry without NV mark is never
-- touched. Assumes nothing.
use mathlib.Core.Bool.{Bool, true, false, cond, and-false, and-eq-true_iff}
use mathlib.Core.List.{List, [], ◌∷◌, ◌++◌}
use mathlib.Core.Path.{◌≡◌, refl, sym, ap, ◌∙◌}
use Prim.Native.Nat.{ℕ, zero, suc, ◌+◌, ◌-◌, ◌*◌, ◌<◌}
use native.Mathlib.Omega.{arith}
use lib.Dec.{lit<}
use lib.ListN.{length, take, drop, get_or, replicate, length-append, length-replicate}
use lib.Seq.{take_all}
use Rattle.bits.proofs.Numbers.{length-msb, length-bits, length-packed, bits-packed, bytes_of, small_bits, small_msb, small_append}
use Rattle.wire.proofs.LittleLaws.{Bytes}
use Rattle.wire.proofs.SpliceLaws.{is_apart}
use Rattle.bits.specs.Bits.{msb, bits, packed, Small}
use Rattle.block.proofs.Entries.{small_entry}
use Rattle.block.proofs.RoundTrips.{Clear, load_beside, length_load, load_shows, shown_entry, load_own, stored-good, store-loaded, loaded-good}
use Rattle.block.proofs.Straight.{loadable-over}
use Rattle.block.proofs.Tables.{Among, nv-among, nv-clear}
use Rattle.block.proofs.Turns.{nv_keep, nv_rise, used, kept_at}
use Rattle.block.proofs.Walking.{length-saved}
use Rattle.block.specs.Block.{LAYOUT, BAG552, part, entry_bits, widths, saved, load_rows, values_good, block_of, good}
use Rattle.block.specs.Saved.{saved_rows, storable, stored_block, loadable, loaded, leaves_straight}
use Rattle.crossed.specs.Crossed.{straight}
use Rattle.entry.specs.Entry.{entry_of}
use Rattle.table.proofs.Table.{rows-length, disjoint}
use Rattle.table.specs.Row.{Row, no_row}
use Rattle.table.specs.Rows.{rows, row_count, at_row}
use Rattle.table.specs.Rule.{held}

-- ---- the block of any values

small_saved : (values : List ℕ) (rs : List Row) → Small (saved values rs)
unfolding saved Small
small_saved values [] = tt
small_saved values (r ∷ rs) = small_append (entry_bits r.kind r.len (part values r)) (saved values rs) (small_entry r.kind r.len (part values r)) (small_saved values rs)

small_zeros : (n : ℕ) → Small (replicate n 0)
unfolding Small
small_zeros zero = tt
small_zeros (suc n) = (lit< tt, small_zeros n)

small_block : (values : List ℕ) → Small (block_of BAG552 values saved_rows)
unfolding block_of
small_block values =
    let s : List ℕ = saved values saved_rows in
    let z : List ℕ = replicate (4096 - (8 + widths saved_rows)) 0 in
    small_append (msb 4 LAYOUT) (msb 4 BAG552 ++ (s ++ z)) (small_msb 4 LAYOUT)
    (small_append (msb 4 BAG552) (s ++ z) (small_msb 4 BAG552) (small_append s z (small_saved values saved_rows) (small_zeros (4096 - (8 + widths saved_rows)))))

length-block : (values : List ℕ) → length values ≡ 1024 → length (block_of BAG552 values saved_rows) ≡ 4096
unfolding block_of
length-block values n =
    let s : List ℕ = saved values saved_rows in
    let z : List ℕ = replicate (4096 - (8 + widths saved_rows)) 0 in
    omega (arith, length-append (msb 4 LAYOUT) (msb 4 BAG552 ++ (s ++ z)), length-append (msb 4 BAG552) (s ++ z), length-append s z, length-msb 4 LAYOUT, length-msb 4 BAG552, length-saved values saved_rows nv_keep n, length-replicate {A = ℕ} (4096 - (8 + widths saved_rows)) 0, used)

bits-block : (values : List ℕ) → length values ≡ 1024 → bits (packed 512 (block_of BAG552 values saved_rows)) ≡ block_of BAG552 values saved_rows
bits-block values n =
    let l : length (block_of BAG552 values saved_rows) ≡ 4096 = length-block values n in
    bits-packed 512 (block_of BAG552 values saved_rows) (small_block values) (omega arith)
    ∙ take_all 4096 (block_of BAG552 values saved_rows) (omega arith)

-- ---- lengths

pub length-stored : (values block : List ℕ) → length block ≡ 512 → length (stored_block values block) ≡ 512
unfolding stored_block
length-stored values block n = go (storable values)
  where
    go : (b : Bool) → length (cond b (packed 512 (block_of BAG552 values saved_rows)) block) ≡ 512
    go true = length-packed 512 _
    go false = n

pub length-loaded : (block values : List ℕ) → length values ≡ 1024 → length (loaded block values) ≡ 1024
unfolding loaded
length-loaded block values n = go (loadable block)
  where
    go : (b : Bool) → length (cond b (load_rows (bits block) 8 saved_rows values) values) ≡ 1024
    go true = length_load (bits block) 8 saved_rows values nv_keep n
    go false = n

-- ---- load after store

entry_part : (values : List ℕ) (k : ℕ) → k < row_count → (at_row k).nv ≡ 1 → entry_of (at_row k) values ≡ part values (at_row k)
unfolding entry_of
entry_part values k h m = ap (λ (n : ℕ). take n (drop (at_row k).place values)) (kept_at k h m).held_all

taken : (block values : List ℕ) → loadable block ≡ true → loaded block values ≡ load_rows (bits block) 8 saved_rows values
unfolding loaded
taken block values ok = rw ok

module _ (values block : List ℕ) (hb : Bytes values) (hn : length values ≡ 1024) (ok : storable values ≡ true) where
  sound : (values_good values saved_rows ≡ true) × (straight values ≡ true)
  unfolding storable
  sound = (and-eq-true_iff (values_good values saved_rows) _).0 ok

  stored_is : stored_block values block ≡ packed 512 (block_of BAG552 values saved_rows)
  unfolding stored_block
  stored_is = rw ok

  stored-bits : bits (stored_block values block) ≡ block_of BAG552 values saved_rows
  stored-bits = ap bits stored_is ∙ bits-block values hn

  stored-own : load_rows (bits (stored_block values block)) 8 saved_rows values ≡ values
  stored-own = ap (λ (b : List ℕ). load_rows b 8 saved_rows values) stored-bits ∙ load_own values hb hn BAG552 saved_rows nv_keep sound.0

  -- what was stored is not faulty
  pub stored-loadable : loadable (stored_block values block) ≡ true
  stored-loadable =
      loadable-over (stored_block values block) (ap length stored_is ∙ length-packed 512 _) values hn
      ∙ (and-eq-true_iff _ _).1 (ap (λ (b : List ℕ). good BAG552 b saved_rows) stored-bits ∙ stored-good values hb hn BAG552 saved_rows nv_keep sound.0 (lit< tt), ap straight stored-own ∙ sound.1)

  -- every NV entry is as it was at the store, whatever the values became
  pub load_restores : (others : List ℕ) → length others ≡ 1024 → (k : ℕ) → k < row_count → (at_row k).nv ≡ 1
      → entry_of (at_row k) (loaded (stored_block values block) others) ≡ entry_of (at_row k) values
  load_restores others n k h m =
      let a : Among saved_rows (at_row k) = nv-among rows k (omega (arith, rows-length)) m in
      let bs : List ℕ = bits (stored_block values block) in
      let e : part (load_rows bs 8 saved_rows others) (get_or saved_rows a.nth no_row) ≡ part (load_rows bs 8 saved_rows values) (get_or saved_rows a.nth no_row) =
      shown_entry bs saved_rows 8 _ _ (load_shows bs saved_rows 0 8 others nv_keep nv_rise n) (load_shows bs saved_rows 0 8 values nv_keep nv_rise hn) a.nth a.there in
      entry_part (loaded (stored_block values block) others) k h m
      ∙ ap (λ (v : List ℕ). part v (at_row k)) (taken (stored_block values block) others stored-loadable)
      ∙ (rw a.is at e)
      ∙ ap (λ (v : List ℕ). part v (at_row k)) stored-own
      ∙ sym (entry_part values k h m)

  -- and the values themselves are left
  pub load_leaves : loaded (stored_block values block) values ≡ values
  load_leaves = taken (stored_block values block) values stored-loadable ∙ stored-own

-- a store that is refused writes nothing
pub refused_leaves : (values block : List ℕ) → storable values ≡ false → stored_block values block ≡ block
unfolding stored_block
refused_leaves values block e = rw e

-- values with a crossed trip point are not stored (R3.7, R8.6)
pub crossed_unstored : (values : List ℕ) → straight values ≡ false → storable values ≡ false
unfolding storable
crossed_unstored values e = rw e (and-false (values_good values saved_rows))

-- ---- a block that is taken, and a store after it

module _ (block values : List ℕ) (lb : length block ≡ 512) (hn : length values ≡ 1024) where
  -- a block that would leave a trip point crossed is faulty (R3.7, R4.3)
  pub crossed-refused : leaves_straight block values ≡ false → loadable block ≡ false
  crossed-refused e = loadable-over block lb values hn ∙ rw e (and-false (good BAG552 (bits block) saved_rows))

  sound_block : loadable block ≡ true → (good BAG552 (bits block) saved_rows ≡ true) × (leaves_straight block values ≡ true)
  sound_block ok = (and-eq-true_iff (good BAG552 (bits block) saved_rows) _).0 (sym (loadable-over block lb values hn) ∙ ok)

  -- and one that is taken leaves none
  pub loaded-straight : loadable block ≡ true → straight (loaded block values) ≡ true
  loaded-straight ok = ap straight (taken block values ok) ∙ (sound_block ok).1

module _ (block values : List ℕ) (hb : Bytes block) (lb : length block ≡ 512) (hn : length values ≡ 1024) (ok : loadable block ≡ true) where
  pub loaded-storable : storable (loaded block values) ≡ true
  unfolding storable
  loaded-storable =
      (and-eq-true_iff _ _).1 (
        ap (λ (v : List ℕ). values_good v saved_rows) (taken block values ok)
            ∙ loaded-good (bits block) (small_bits block) BAG552 saved_rows values nv_keep nv_rise hn (length-bits block ∙ ap (λ (n : ℕ). 8 * n) lb) used (sound_block block values lb hn ok).0,
        loaded-straight block values lb hn ok,
      )

  -- the same 512 bytes
  pub store_after_load : (old : List ℕ) → stored_block (loaded block values) old ≡ block
  unfolding stored_block
  store_after_load old =
      rw loaded-storable
      (ap (λ (v : List ℕ). packed 512 (block_of BAG552 v saved_rows)) (taken block values ok)
      ∙ ap (packed 512) (store-loaded (bits block) (small_bits block) BAG552 saved_rows values nv_keep nv_rise hn (length-bits block ∙ ap (λ (n : ℕ). 8 * n) lb) used (sound_block block values lb hn ok).0)
      ∙ ap (λ (n : ℕ). packed n (bits block)) (sym lb)
      ∙ bytes_of block hb)

-- a faulty block changes no value byte
pub faulty_leaves : (block values : List ℕ) → loadable block ≡ false → loaded block values ≡ values
unfolding loaded
faulty_leaves block values e = rw e

-- ---- an entry without NV mark is never touched

other_clear : (k : ℕ) → k < row_count → ((at_row k).nv ≡ 1 → ⊥) → Clear saved_rows (at_row k).place (held (at_row k))
other_clear k h d =
    nv-clear rows (at_row k).place (held (at_row k))
    (λ j l m.
    let r : j < row_count = omega (arith, rows-length) in
    let e : held (at_row j) ≡ (at_row j).len = (kept_at j r m).held_all in
    rw e at (is_apart (at_row j).place (held (at_row j)) (at_row k).place (held (at_row k)) (disjoint j k r h (λ s. d (rw s at m)))))

pub load_other : (block values : List ℕ) → length values ≡ 1024 → (k : ℕ) → k < row_count → ((at_row k).nv ≡ 1 → ⊥)
    → entry_of (at_row k) (loaded block values) ≡ entry_of (at_row k) values
unfolding loaded entry_of
load_other block values n k h d = go (loadable block)
  where
    go : (b : Bool) → take (held (at_row k)) (drop (at_row k).place (cond b (load_rows (bits block) 8 saved_rows values) values)) ≡ take (held (at_row k)) (drop (at_row k).place values)
    go true = load_beside (bits block) 8 saved_rows values (at_row k).place (held (at_row k)) nv_keep (other_clear k h d) n
    go false = refl
