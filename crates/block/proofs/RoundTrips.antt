-- Loaded after stored, and stored after loaded, for any rows that keep the rule. Assumes nothing.
use mathlib.Core.Bool.{true, and-eq-true_iff}
use mathlib.Core.List.{List, [], ◌∷◌, ◌++◌, append_assoc}
use mathlib.Core.Logic.{inr}
use mathlib.Core.Path.{◌≡◌, refl, sym, ap, ◌∙◌}
use Prim.Native.Nat.{ℕ, zero, suc, ◌+◌, ◌-◌, ◌≤◌, ◌<◌}
use native.Mathlib.Nat.{not-suc-le-zero, le_of_suc-le-suc}
use native.Mathlib.Omega.{arith}
use lib.Dec.{leb, eqb}
use lib.ListN.{length, take, drop, get_or, replicate, length-append, length-drop, take-append-drop}
use lib.Seq.{drop_at, drop-drop, take-add, length-take-le}
use borrow.Author.Tests.{le-leb, eqb-true, eq-eqb}
use Rattle.bits.proofs.Numbers.{length-msb, num-msb, msb-num, small_take, small_drop}
use Rattle.bits.proofs.Parts.{field_mid}
use Rattle.bits.specs.Bits.{msb, num, field, Small}
use Rattle.block.proofs.Entries.{length_entry, length-bytes, entry_back, back_entry, number-back, bits-number, number_or_string, within_string}
use Rattle.block.proofs.Judged.{cut_is}
use Rattle.block.proofs.Kept.{Kept}
use Rattle.block.proofs.Walking.{fits, Keeps, part_long, length-saved}
use Rattle.block.proofs.Zeros.{zeros, zeros_are}
use Rattle.block.specs.Asked.{saved_numbers}
use Rattle.block.specs.Block.{LAYOUT, row_width, part, entry_bits, entry_bytes, within, widths, saved, load_rows, values_good, rows_good, all_zero, block_of, headed, good}
use Rattle.table.specs.Row.{Row, no_row, REAL}
use Rattle.wire.proofs.LittleLaws.{Bytes, bytes-part}
use Rattle.wire.proofs.SpliceLaws.{length-splice, is_apart, part_same, part_apart, splice-own}
use Rattle.wire.specs.Little.{from_little, number}
use Rattle.wire.specs.Splice.{splice, apart}

-- ---- an entry that no row of a list touches

unfoldable pub Clear : List Row → ℕ → ℕ → Type 0
Clear [] q m = Unit
Clear (r ∷ rs) q m = (apart r.place r.len q m ≡ true) × Clear rs q m

-- places rise, so that no entry is touched by a later one
unfoldable pub Rising : ℕ → List Row → Type 0
Rising from [] = Unit
Rising from (r ∷ rs) = (from ≤ r.place) × Rising (r.place + r.len) rs

pub rising_below : (rs : List Row) (m n : ℕ) → m ≤ n → Rising n rs → Rising m rs
unfolding Rising
rising_below [] m n h t = tt
rising_below (r ∷ rs) m n h t = let g : n ≤ r.place = t.0 in (omega arith, t.1)

rising_clear : (rs : List Row) (q m : ℕ) → Rising (q + m) rs → Clear rs q m
unfolding Rising Clear
rising_clear [] q m t = tt
rising_clear (r ∷ rs) q m t =
    let g : q + m ≤ r.place = t.0 in
    (is_apart r.place r.len q m (inr g), rising_clear rs q m (rising_below rs (q + m) (r.place + r.len) (omega arith) t.1))

-- ---- one entry

room_of : (values : List ℕ) (r : Row) → Kept r → length values ≡ 1024 → leb r.place (length values) ≡ true
room_of values r k n = le-leb r.place (length values) (omega (arith, k.sized.inside))

length_one : (values : List ℕ) (r : Row) (bs : List ℕ) → Kept r → length values ≡ 1024 → length (splice values r.place (entry_bytes r.kind r.len bs)) ≡ 1024
length_one values r bs k n =
    length-splice values r.place (entry_bytes r.kind r.len bs) (omega (arith, length-bytes r.kind r.len bs, k.sized.inside)) ∙ n

-- loading leaves what no entry touches
pub load_beside : (bs : List ℕ) (at : ℕ) (rs : List Row) (values : List ℕ) (q m : ℕ) → Keeps rs → Clear rs q m → length values ≡ 1024
    → take m (drop q (load_rows bs at rs values)) ≡ take m (drop q values)
unfolding load_rows Keeps Clear
load_beside bs at [] values q m k t n = refl
load_beside bs at (r ∷ rs) values q m k t n =
    let own : List ℕ = entry_bytes r.kind r.len (drop at bs) in
    load_beside bs (at + row_width r) rs (splice values r.place own) q m k.1 t.1 (length_one values r (drop at bs) k.0 n)
    ∙ part_apart values r.place own (room_of values r k.0 n) q m (rw (length-bytes r.kind r.len (drop at bs)) t.0)

pub length_load : (bs : List ℕ) (at : ℕ) (rs : List Row) (values : List ℕ) → Keeps rs → length values ≡ 1024 → length (load_rows bs at rs values) ≡ 1024
unfolding load_rows Keeps
length_load bs at [] values k n = n
length_load bs at (r ∷ rs) values k n =
    length_load bs (at + row_width r) rs (splice values r.place (entry_bytes r.kind r.len (drop at bs))) k.1 (length_one values r (drop at bs) k.0 n)

-- ---- the values have the entries of the bits

unfoldable pub Shows : List ℕ → ℕ → List Row → List ℕ → Type 0
Shows bs at [] values = Unit
Shows bs at (r ∷ rs) values = (part values r ≡ entry_bytes r.kind r.len (drop at bs)) × Shows bs (at + row_width r) rs values

-- after a load, whatever the values were
pub load_shows : (bs : List ℕ) (rs : List Row) (from at : ℕ) (values : List ℕ) → Keeps rs → Rising from rs → length values ≡ 1024 → Shows bs at rs (load_rows bs at rs values)
unfolding load_rows Keeps Rising Shows
load_shows bs [] from at values k t n = tt
load_shows bs (r ∷ rs) from at values k t n =
    let own : List ℕ = entry_bytes r.kind r.len (drop at bs) in
    let mid : List ℕ = splice values r.place own in
    let lm : length mid ≡ 1024 = length_one values r (drop at bs) k.0 n in (
      load_beside bs (at + row_width r) rs mid r.place r.len k.1 (rising_clear rs r.place r.len t.1) lm
          ∙ part_same values r.place own (room_of values r k.0 n) r.len (length-bytes r.kind r.len (drop at bs)),
      load_shows bs rs (r.place + r.len) (at + row_width r) mid k.1 t.1 lm,
    )

-- so entry j is the same after two loads
pub shown_entry : (bs : List ℕ) (rs : List Row) (at : ℕ) (x y : List ℕ) → Shows bs at rs x → Shows bs at rs y → (j : ℕ) → j < length rs
    → part x (get_or rs j no_row) ≡ part y (get_or rs j no_row)
unfolding Shows
shown_entry bs [] at x y s t j h = absurd (not-suc-le-zero h)
shown_entry bs (r ∷ rs) at x y s t zero h = s.0 ∙ sym t.0
shown_entry bs (r ∷ rs) at x y s t (suc j) h = shown_entry bs rs (at + row_width r) x y s.1 t.1 j (le_of_suc-le-suc h)

-- ---- the block begins with 8 bits

head : ℕ → List ℕ
head model = msb 4 LAYOUT ++ msb 4 model

length_head : (model : ℕ) → length (head model) ≡ 8
unfolding head
length_head model = omega (arith, length-append (msb 4 LAYOUT) (msb 4 model), length-msb 4 LAYOUT, length-msb 4 model)

block_parts : (model : ℕ) (values : List ℕ) (rs : List Row) → block_of model values rs ≡ head model ++ (saved values rs ++ replicate (4096 - (8 + widths rs)) 0)
unfolding block_of head
block_parts model values rs = sym (append_assoc (msb 4 LAYOUT) (msb 4 model) (saved values rs ++ replicate (4096 - (8 + widths rs)) 0))

-- ---- loaded after stored

module _ (others : List ℕ) (hb : Bytes others) (hn : length others ≡ 1024) where
  rows-own : (rs : List Row) → Keeps rs → values_good others rs ≡ true → (front rest : List ℕ) (at : ℕ) → length front ≡ at
      → load_rows (front ++ (saved others rs ++ rest)) at rs others ≡ others
  unfolding load_rows saved values_good Keeps
  rows-own [] k g front rest at e = refl
  rows-own (r ∷ rs) k g front rest at e =
      let own : List ℕ = entry_bits r.kind r.len (part others r) in
      let gg = (and-eq-true_iff (within r (number others r.place r.len)) (values_good others rs)).0 g in
      let lp : length (part others r) ≡ r.len = part_long others r k.0 hn in
      let d : drop at (front ++ ((own ++ saved others rs) ++ rest)) ≡ own ++ (saved others rs ++ rest) =
      drop_at front ((own ++ saved others rs) ++ rest) at e ∙ append_assoc own (saved others rs) rest in
      let b : entry_bytes r.kind r.len (own ++ (saved others rs ++ rest)) ≡ part others r =
      entry_back r.kind r.len (part others r) (saved others rs ++ rest) (bytes-part others r.place r.len hb) lp (λ h. fits others r k.0 hb gg.0) in
      let n : length (front ++ own) ≡ at + row_width r = omega (arith, length-append front own, length_entry r.kind r.len (part others r) lp) in
      let f : front ++ ((own ++ saved others rs) ++ rest) ≡ (front ++ own) ++ (saved others rs ++ rest) =
      ap (λ (l : List ℕ). front ++ l) (append_assoc own (saved others rs) rest) ∙ sym (append_assoc front own (saved others rs ++ rest)) in
      let s : splice others r.place (part others r) ≡ others = splice-own others r.place r.len (omega (arith, k.0.sized.inside)) in
      rw (d, b, s) (ap (λ (l : List ℕ). load_rows l (at + row_width r) rs others) f ∙ rows-own rs k.1 gg.1 (front ++ own) rest (at + row_width r) n)

  rows_fine : (rs : List Row) → Keeps rs → values_good others rs ≡ true → (front rest : List ℕ) (at : ℕ) → length front ≡ at
      → rows_good (front ++ (saved others rs ++ rest)) at rs ≡ true
  unfolding rows_good saved values_good Keeps number
  rows_fine [] k g front rest at e = refl
  rows_fine (r ∷ rs) k g front rest at e =
      let own : List ℕ = entry_bits r.kind r.len (part others r) in
      let tail : List ℕ = saved others rs ++ rest in
      let gg = (and-eq-true_iff (within r (number others r.place r.len)) (values_good others rs)).0 g in
      let lp : length (part others r) ≡ r.len = part_long others r k.0 hn in
      let lo : length own ≡ row_width r = length_entry r.kind r.len (part others r) lp in
      let f : front ++ ((own ++ saved others rs) ++ rest) ≡ front ++ (own ++ tail) = ap (λ (l : List ℕ). front ++ l) (append_assoc own (saved others rs) rest) in
      let w : within r (field (front ++ (own ++ tail)) at (row_width r)) ≡ true =
      number_or_string r.kind
      (λ h.
      ap (within r) (field_mid front own tail at (row_width r) e lo ∙ ap num (bits-number r.kind r.len (part others r) h) ∙ num-msb (row_width r) (from_little (part others r)) (fits others r k.0 hb gg.0))
      ∙ gg.0)
      (λ h. sym (within_string r _ h)) in
      let n : length (front ++ own) ≡ at + row_width r = omega (arith, length-append front own) in
      rw (f, w) (ap (λ (l : List ℕ). rows_good l (at + row_width r) rs) (f ∙ sym (append_assoc front own tail)) ∙ rows_fine rs k.1 gg.1 (front ++ own) rest (at + row_width r) n)

  module _ (model : ℕ) (rs : List Row) (k : Keeps rs) (g : values_good others rs ≡ true) where
    -- into the values that it was stored from, a block brings nothing new
    pub load_own : load_rows (block_of model others rs) 8 rs others ≡ others
    load_own = ap (λ (b : List ℕ). load_rows b 8 rs others) (block_parts model others rs) ∙ rows-own rs k g (head model) _ 8 (length_head model)

    -- and is not faulty
    pub stored-good : model < 16 → good model (block_of model others rs) rs ≡ true
    unfolding headed good block_of
    stored-good h =
        let z : List ℕ = replicate (4096 - (8 + widths rs)) 0 in
        let s : List ℕ = saved others rs in
        let b : List ℕ = msb 4 LAYOUT ++ (msb 4 model ++ (s ++ z)) in
        let lay : field b 0 4 ≡ LAYOUT = field_mid [] (msb 4 LAYOUT) (msb 4 model ++ (s ++ z)) 0 4 refl (length-msb 4 LAYOUT) ∙ num-msb 4 LAYOUT (omega arith) in
        let mdl : field b 4 4 ≡ model = field_mid (msb 4 LAYOUT) (msb 4 model) (s ++ z) 4 4 (length-msb 4 LAYOUT) (length-msb 4 model) ∙ num-msb 4 model h in
        let row : rows_good b 8 rs ≡ true = ap (λ (x : List ℕ). rows_good x 8 rs) (block_parts model others rs) ∙ rows_fine rs k g (head model) z 8 (length_head model) in
        let d : drop (8 + widths rs) b ≡ z =
        ap (drop (8 + widths rs)) (block_parts model others rs ∙ sym (append_assoc (head model) s z))
        ∙ drop_at (head model ++ s) z (8 + widths rs) (omega (arith, length-append (head model) s, length_head model, length-saved others rs k hn)) in
        rw (lay, mdl, row, d, eq-eqb model model refl) (zeros (4096 - (8 + widths rs)))

-- ---- stored after loaded: the same bits

module _ (bs : List ℕ) (sm : Small bs) where
  shown-bits : (rs : List Row) (at : ℕ) (values : List ℕ) → Keeps rs → at + widths rs ≤ length bs → Shows bs at rs values → saved values rs ≡ take (widths rs) (drop at bs)
  unfolding saved widths Keeps Shows
  shown-bits [] at values k h s = refl
  shown-bits (r ∷ rs) at values k h s =
      let two : entry_bits r.kind r.len (entry_bytes r.kind r.len (drop at bs)) ≡ take (row_width r) (drop at bs) =
      back_entry r.kind r.len (drop at bs) (small_drop at bs sm) (omega (arith, length-drop at bs)) k.0.sized.some in
      rw (s.0, two, shown-bits rs (at + row_width r) values k.1 (omega arith) s.1)
      (rw (← drop-drop (row_width r) at bs) (sym (take-add (row_width r) (widths rs) (drop at bs))))

  -- a number of the values is the field of the bits
  shown-field : (r : Row) (at : ℕ) (values : List ℕ) → Kept r → at + row_width r ≤ length bs → part values r ≡ entry_bytes r.kind r.len (drop at bs) → r.kind ≤ REAL
      → number values r.place r.len ≡ field bs at (row_width r)
  unfolding number field
  shown-field r at values k h s c =
      ap from_little s ∙ number-back r.kind r.len (drop at bs) (small_drop at bs sm) (omega (arith, length-drop at bs)) k.sized.some c

  pub shown-number : (rs : List Row) (at : ℕ) (values : List ℕ) → Keeps rs → at + widths rs ≤ length bs → Shows bs at rs values → (j : ℕ) → j < length rs → (get_or rs j no_row).kind ≤ REAL
      → number values (get_or rs j no_row).place (get_or rs j no_row).len ≡ get_or (saved_numbers bs at rs) j 0
  unfolding widths Keeps Shows saved_numbers
  shown-number [] at values k h s j l c = absurd (not-suc-le-zero l)
  shown-number (r ∷ rs) at values k h s zero l c = shown-field r at values k.0 (omega arith) s.0 c ∙ ap (field bs at) (sym (cut_is r k.0 c))
  shown-number (r ∷ rs) at values k h s (suc j) l c = shown-number rs (at + row_width r) values k.1 (omega arith) s.1 j (le_of_suc-le-suc l) c

  -- of good bits they are good
  shown-good : (rs : List Row) (at : ℕ) (values : List ℕ) → Keeps rs → at + widths rs ≤ length bs → Shows bs at rs values → rows_good bs at rs ≡ true → values_good values rs ≡ true
  unfolding values_good rows_good widths Keeps Shows
  shown-good [] at values k h s g = refl
  shown-good (r ∷ rs) at values k h s g =
      let gg = (and-eq-true_iff (within r (field bs at (row_width r))) (rows_good bs (at + row_width r) rs)).0 g in
      let w : within r (number values r.place r.len) ≡ true =
      number_or_string r.kind
      (λ c. ap (within r) (shown-field r at values k.0 (omega arith) s.0 c) ∙ gg.0)
      (λ c. sym (within_string r _ c)) in
      rw w (shown-good rs (at + row_width r) values k.1 (omega arith) s.1 gg.1)

  part-num : (at w : ℕ) → at + w ≤ length bs → msb w (field bs at w) ≡ take w (drop at bs)
  unfolding field
  part-num at w h = msb-num w (take w (drop at bs)) (small_take w (drop at bs) (small_drop at bs sm)) (length-take-le w (drop at bs) (omega (arith, length-drop at bs)))

  take_rest : (w at : ℕ) → take w (drop at bs) ++ drop (at + w) bs ≡ drop at bs
  take_rest w at = ap (λ (l : List ℕ). take w (drop at bs) ++ l) (sym (drop-drop w at bs)) ∙ take-append-drop w (drop at bs)

  -- what is tested of a block
  good_parts : (model : ℕ) (rs : List Row) → good model bs rs ≡ true
      → (eqb (field bs 0 4) LAYOUT ≡ true) × (eqb (field bs 4 4) model ≡ true) × (rows_good bs 8 rs ≡ true) × (all_zero (drop (8 + widths rs) bs) ≡ true)
  unfolding headed good
  good_parts model rs g =
      let a = (and-eq-true_iff (headed model bs) _).0 g in
      let b = (and-eq-true_iff (eqb (field bs 0 4) LAYOUT) _).0 a.0 in
      let c = (and-eq-true_iff (rows_good bs 8 rs) _).0 a.1 in
      (b.0, b.1, c.0, c.1)

  -- a block that is not faulty, loaded into any values, stores as the same block
  pub store-loaded : (model : ℕ) (rs : List Row) (values : List ℕ) → Keeps rs → Rising 0 rs → length values ≡ 1024 → length bs ≡ 4096 → 8 + widths rs ≤ 4096
      → good model bs rs ≡ true → block_of model (load_rows bs 8 rs values) rs ≡ bs
  unfolding block_of
  store-loaded model rs values k t n e u g =
      let w : ℕ = widths rs in
      let gs = good_parts model rs g in
      let lay : msb 4 LAYOUT ≡ take 4 bs = ap (msb 4) (sym (eqb-true (field bs 0 4) LAYOUT gs.0)) ∙ part-num 0 4 (omega arith) in
      let mdl : msb 4 model ≡ take 4 (drop 4 bs) = ap (msb 4) (sym (eqb-true (field bs 4 4) model gs.1)) ∙ part-num 4 4 (omega arith) in
      let ln : length (drop (8 + w) bs) ≡ 4096 - (8 + w) = length-drop (8 + w) bs ∙ ap (λ (x : ℕ). x - (8 + w)) e in
      let zs : replicate (4096 - (8 + w)) 0 ≡ drop (8 + w) bs = sym (zeros_are (drop (8 + w) bs) gs.3 ∙ ap (λ (j : ℕ). replicate {A = ℕ} j 0) ln) in
      let rb : saved (load_rows bs 8 rs values) rs ≡ take w (drop 8 bs) =
      shown-bits rs 8 _ k (omega arith) (load_shows bs rs 0 8 values k t n) in
      rw (lay, mdl, rb, zs)
      (ap (λ (l : List ℕ). take 4 bs ++ (take 4 (drop 4 bs) ++ l)) (take_rest w 8)
      ∙ ap (λ (l : List ℕ). take 4 bs ++ l) (take_rest 4 4)
      ∙ take-append-drop 4 bs)

  pub loaded-good : (model : ℕ) (rs : List Row) (values : List ℕ) → Keeps rs → Rising 0 rs → length values ≡ 1024 → length bs ≡ 4096 → 8 + widths rs ≤ 4096
      → good model bs rs ≡ true → values_good (load_rows bs 8 rs values) rs ≡ true
  loaded-good model rs values k t n e u g = shown-good rs 8 _ k (omega arith) (load_shows bs rs 0 8 values k t n) (good_parts model rs g).2
