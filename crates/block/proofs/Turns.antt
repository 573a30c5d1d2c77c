-- The turns of the walks over the NV rows. Assumes nothing.
use mathlib.Core.Bool.{Bool, true, false}
use mathlib.Core.List.{List, [], ◌∷◌, ◌++◌, map}
use mathlib.Core.Path.{◌≡◌, refl, sym, ap, ◌∙◌}
use Prim.Native.Nat.{ℕ, zero, suc, ◌+◌, ◌-◌, ◌*◌, ◌^◌, ◌≤◌, ◌<◌}
use native.Mathlib.Nat.{not-suc-le-zero, le_of_suc-le-suc, add-zero}
use native.Mathlib.Numerals.{add-one}
use native.Mathlib.Omega.{arith}
use lib.Dec.{leb, leb→le}
use lib.ListN.{length, take, drop, get_or, set, drop_of_length-le}
use lib.Seq.{take_all, take-suc, take-suc-set}
use Rattle.wire.proofs.LittleLaws.{Bytes}
use Rattle.bits.specs.Bits.{bits, field}
use Rattle.block.proofs.Entries.{length_entry}
use Rattle.block.proofs.Judged.{held-judged, cut_is, cut_fits, saved-judged}
use Rattle.block.proofs.Kept.{Kept, kept}
use Rattle.block.proofs.RoundTrips.{Rising}
use Rattle.block.proofs.Tables.{table_keeps, table_rises, table_used}
use Rattle.block.proofs.Walking.{Keeps, keeps_at, keeps_take, fits, part_long, length-saved, length_numbers, widths-next, widths-all, saved-next, load_next, number_here, held_next, saved_front-next, start_here, start-next}
use Rattle.block.proofs.Zeros.{zero_behind}
use Rattle.block.specs.Asked.{starts, cut, lowest, highest, Sized, fresh_bytes, entry_len, between, held_front, saved_front, saved_numbers, Front}
use Rattle.block.specs.Block.{width, row_width, part, entry_bits, entry_bytes, within, nv_rows, widths, saved, load_rows, all_zero}
use Rattle.block.specs.Saved.{saved_rows}
use Rattle.limits.specs.Limits.{number_len}
use Rattle.table.proofs.Table.{rows_pass, row_rule}
use Rattle.table.proofs.Walks.{every-at}
use Rattle.table.specs.Row.{Row, no_row, REAL}
use Rattle.table.specs.Rows.{rows, row_count, at_row, nv_count, nv_end}
use Rattle.table.specs.Rule.{rank}
use Rattle.table.specs.Walk.{every}
use Rattle.wire.proofs.SpliceLaws.{splice_then, splice_none}
use Rattle.wire.specs.Little.{number}
use Rattle.wire.specs.Splice.{splice}

-- ---- the table's NV rows

pub nv_keep : Keeps saved_rows
nv_keep = table_keeps rows rows_pass

pub nv_rise : Rising 0 saved_rows
nv_rise = table_rises rows rows_pass

pub used : 8 + widths saved_rows ≤ 4096
used = table_used rows rows_pass

pub kept_at : (i : ℕ) → i < row_count → (at_row i).nv ≡ 1 → Kept (at_row i)
kept_at i h m = kept (at_row i) (row_rule i h) m

-- as many as the code counts, and their entries end where it says
pub nv-length : length saved_rows ≡ nv_count
unfolding rows nv_rows
nv-length = refl

pub nv-ends : 8 + widths saved_rows ≡ nv_end
unfolding rows nv_rows widths width
nv-ends = refl

abbrev pub at-nv : ℕ → Row
at-nv i = get_or saved_rows i no_row

-- their numbers lie in the values, and so do the first four bytes of a string
number-inside : (i : ℕ) → i < nv_count → (at-nv i).place + number_len (at-nv i).kind ≤ 1024
unfolding rows nv_rows every number_len
number-inside i h = leb→le _ _ (every-at (λ (r : Row). leb (r.place + number_len r.kind) 1024) saved_rows no_row tt i (omega (arith, nv-length)))

-- ---- a column at row i

map_at : (f : Row → ℕ) (rs : List Row) (i : ℕ) → i < length rs → get_or (map f rs) i 0 ≡ f (get_or rs i no_row)
map_at f [] i h = absurd (not-suc-le-zero h)
map_at f (r ∷ rs) zero h = refl
map_at f (r ∷ rs) (suc i) h = map_at f rs i (le_of_suc-le-suc h)

-- the columns that the code reads
abbrev pub kinds : List ℕ
kinds = map (λ (r : Row). r.kind) saved_rows

abbrev pub ats : List ℕ
ats = starts 8 saved_rows

abbrev pub cuts : List ℕ
cuts = map cut saved_rows

abbrev pub places : List ℕ
places = map (λ (r : Row). r.place) saved_rows

abbrev pub lows : List ℕ
lows = map lowest saved_rows

abbrev pub highs : List ℕ
highs = map highest saved_rows

column-at : (f : Row → ℕ) (i : ℕ) → i < nv_count → get_or (map f saved_rows) i 0 ≡ f (at-nv i)
column-at f i h = map_at f saved_rows i (omega (arith, nv-length))

pub cut_at : (i : ℕ) → i < nv_count → get_or cuts i 0 ≡ cut (at-nv i)
cut_at i h = column-at cut i h

pub place_at : (i : ℕ) → i < nv_count → get_or places i 0 ≡ (at-nv i).place
place_at i h = column-at (λ (r : Row). r.place) i h

-- ---- an entry that a walk has reached

pub record Here (i kind at width : ℕ) : Type 0 where
  pub there : i < nv_count
  pub kind_is : kind ≡ (at-nv i).kind
  pub at_is : at ≡ 8 + widths (take i saved_rows)
  pub width_is : width ≡ row_width (at-nv i)

module _ (i : ℕ) (h : i < nv_count) {at : ℕ} (e : at ≡ get_or ats i 0) where
  pub seen : Here i (get_or kinds i 0) at (row_width (at-nv i))
  seen =
      record {
        there = h;
        kind_is = column-at (λ (r : Row). r.kind) i h;
        at_is = e ∙ start_here saved_rows i (omega (arith, nv-length)) 8;
        width_is = refl;
      }

  -- its width is the way to the next one
  module _ {next : ℕ} (f : next ≡ get_or ats (i + 1) 0) where
    ends : next ≡ at + row_width (at-nv i)
    ends =
        f
        ∙ omega (arith, start-next saved_rows i (omega (arith, nv-length)) 8, widths-next saved_rows i (omega (arith, nv-length)), seen.at_is)

    pub here : Here i (get_or kinds i 0) at (next - at)
    here = record { there = h; kind_is = seen.kind_is; at_is = seen.at_is; width_is = omega (arith, ends) }

    pub rising : at ≤ next
    rising = omega (arith, ends)

module _ {i kind at width' : ℕ} (g : Here i kind at width') where
  inside : i < length saved_rows
  inside = let h = g.there in omega (arith, nv-length)

  row_kept : Kept (at-nv i)
  row_kept = keeps_at saved_rows i nv_keep inside

  len_here : (at-nv i).len ≡ entry_len kind width'
  len_here = row_kept.len_is ∙ ap (λ (k : ℕ). entry_len k (row_width (at-nv i))) (sym g.kind_is) ∙ ap (entry_len kind) (sym g.width_is)

  pub width_here : width' ≡ width kind (entry_len kind width')
  width_here = g.width_is ∙ ap (λ (k : ℕ). width k (at-nv i).len) (sym g.kind_is) ∙ ap (width kind) len_here

  pub sized_here : {place : ℕ} → place ≡ (at-nv i).place → Sized kind (entry_len kind width') place
  sized_here p = rw (← len_here, g.kind_is, p) row_kept.sized

  pub number-room : {place : ℕ} → place ≡ (at-nv i).place → place + number_len kind ≤ 1024
  number-room p = rw (p, g.kind_is) (number-inside i g.there)

  pub room : at + width' ≤ nv_end
  room = let a = g.at_is in let w = g.width_is in omega (arith, widths-all saved_rows i inside, nv-ends)

  pub cut_here : {c : ℕ} → c ≡ cut (at-nv i) → (1 ≤ c) × (c ≤ 32)
  cut_here q = rw q (cut_fits (at-nv i) row_kept)

  -- ---- the walks

  -- the numbers
  saved_is : (bs : List ℕ) {c : ℕ} → c ≡ cut (at-nv i) → field bs at c ≡ get_or (saved_numbers bs 8 saved_rows) i 0
  saved_is bs q = rw (g.at_is, q) (sym (number_here saved_rows i inside bs 8))

  numbers_long : (bs : List ℕ) → i < length (saved_numbers bs 8 saved_rows)
  numbers_long bs = let h = inside in omega (arith, length_numbers bs 8 saved_rows)

  pub numbers_turn : (bs numbers : List ℕ) {c v : ℕ} → c ≡ cut (at-nv i) → i < length numbers → v ≡ field bs at c → Front bs numbers i → Front bs (set numbers i v) (i + 1)
  numbers_turn bs numbers {c} {v} q h e f =
      let s : List ℕ = saved_numbers bs 8 saved_rows in
      rw (add-one i)
      (take-suc-set numbers i v h
      ∙ ap (λ (l : List ℕ). l ++ (v ∷ [])) f
      ∙ ap (λ (x : ℕ). take i s ++ (x ∷ [])) (e ∙ saved_is bs q)
      ∙ sym (take-suc s i 0 (numbers_long bs)))

  pub number_known : (bs : List ℕ) {numbers : List ℕ} → numbers ≡ saved_numbers bs 8 saved_rows → kind ≤ REAL → get_or numbers i 0 ≡ field bs at width'
  number_known bs f k =
      let q : width' ≡ cut (at-nv i) = g.width_is ∙ sym (cut_is (at-nv i) row_kept (let e = g.kind_is in omega arith)) in
      ap (λ (l : List ℕ). get_or l i 0) f ∙ sym (saved_is bs q)

  -- the limits: an answer by rank is the row's
  module _ (v : ℕ) {answer b : Bool} (says : answer ≡ between (get_or lows i 0) (get_or highs i 0) (rank kind v)) (is : answer ≡ b) where
    low_here : get_or lows i 0 ≡ lowest (at-nv i)
    low_here = column-at lowest i g.there

    high_here : get_or highs i 0 ≡ highest (at-nv i)
    high_here = column-at highest i g.there

    by_rank : (x : ℕ) → v ≡ x → between (lowest (at-nv i)) (highest (at-nv i)) (rank (at-nv i).kind x) ≡ b
    by_rank x e = sym (says ∙ rw (low_here, high_here, g.kind_is, e)) ∙ is

    pub held-within : (values : List ℕ) {place : ℕ} → place ≡ (at-nv i).place → Bytes values → v ≡ number values place (number_len kind) → within (at-nv i) (number values (at-nv i).place (at-nv i).len) ≡ b
    held-within values p hb e = sym (held-judged (at-nv i) row_kept values hb) ∙ by_rank _ (e ∙ rw (p, g.kind_is))

    pub saved-within : (block : List ℕ) {c : ℕ} → c ≡ cut (at-nv i) → v ≡ field (bits block) at c → within (at-nv i) (field (bits block) (8 + widths (take i saved_rows)) (row_width (at-nv i))) ≡ b
    saved-within block q e = sym (saved-judged (at-nv i) row_kept block (8 + widths (take i saved_rows))) ∙ by_rank _ (e ∙ rw (g.at_is, q))

  -- how far the good ones go
  pub saved-on : (bs : List ℕ) → within (at-nv i) (field bs (8 + widths (take i saved_rows)) (row_width (at-nv i))) ≡ true → saved_front bs 8 saved_rows ≡ i + saved_front bs (8 + widths (take i saved_rows)) (drop i saved_rows)
      → saved_front bs 8 saved_rows ≡ i + 1 + saved_front bs (8 + widths (take (i + 1) saved_rows)) (drop (i + 1) saved_rows)
  saved-on bs e f =
      let w : 8 + widths (take i saved_rows) + row_width (at-nv i) ≡ 8 + widths (take (i + 1) saved_rows) = omega (arith, widths-next saved_rows i inside) in
      omega (arith, f, saved_front-next saved_rows i inside bs (8 + widths (take i saved_rows)) e, ap (λ (k : ℕ). saved_front bs k (drop (i + 1) saved_rows)) w)

  pub saved_stop : (bs : List ℕ) → within (at-nv i) (field bs (8 + widths (take i saved_rows)) (row_width (at-nv i))) ≡ false → saved_front bs 8 saved_rows ≡ i + saved_front bs (8 + widths (take i saved_rows)) (drop i saved_rows) → i ≡ saved_front bs 8 saved_rows
  saved_stop bs e f = omega (arith, f, saved_front-next saved_rows i inside bs (8 + widths (take i saved_rows)) e)

  pub held_on : (values : List ℕ) → within (at-nv i) (number values (at-nv i).place (at-nv i).len) ≡ true → held_front values saved_rows ≡ i + held_front values (drop i saved_rows) → held_front values saved_rows ≡ i + 1 + held_front values (drop (i + 1) saved_rows)
  held_on values e f = omega (arith, f, held_next saved_rows i inside values e)

  pub held_stop : (values : List ℕ) → within (at-nv i) (number values (at-nv i).place (at-nv i).len) ≡ false → held_front values saved_rows ≡ i + held_front values (drop i saved_rows) → i ≡ held_front values saved_rows
  held_stop values e f = omega (arith, f, held_next saved_rows i inside values e)

  -- an entry is taken
  pub take-turn : {place : ℕ} → place ≡ (at-nv i).place → (bs first : List ℕ) {values after : List ℕ} → values ≡ load_rows bs 8 (take i saved_rows) first
      → after ≡ splice values place (entry_bytes kind (entry_len kind width') (drop at bs)) → after ≡ load_rows bs 8 (take (i + 1) saved_rows) first
  take-turn p bs first e f = f ∙ rw (e, p, ← len_here, g.kind_is, g.at_is) (sym (load_next saved_rows i inside bs 8 first))

  -- an entry is saved: it fits its width, the block is zero from there on, and one more is in it
  module _ {place : ℕ} (p : place ≡ (at-nv i).place) (values : List ℕ) (lv : length values ≡ 1024) where
    pub fits_here : Bytes values → within (at-nv i) (number values (at-nv i).place (at-nv i).len) ≡ true → {v : ℕ} → v ≡ number values place (number_len kind) → kind ≤ REAL → v < 2 ^ width'
    unfolding number
    fits_here hb e f h =
        let k : (at-nv i).kind ≤ REAL = let q = g.kind_is in omega arith in
        rw (f, g.width_is, p, g.kind_is, ← row_kept.number_is k) (fits values (at-nv i) row_kept hb e)

    before_long : length (saved values (take i saved_rows)) ≡ widths (take i saved_rows)
    before_long = length-saved values (take i saved_rows) (keeps_take saved_rows i nv_keep) lv

    pub zero_here : (l : List ℕ) {bs : List ℕ} → length l ≡ 8 * fresh_bytes → all_zero (drop 8 l) ≡ true → bs ≡ splice l 8 (saved values (take i saved_rows)) → all_zero (drop at bs) ≡ true
    zero_here l n z e =
        let k : at ≡ 8 + length (saved values (take i saved_rows)) = let q = g.at_is in omega (arith, before_long) in
        rw (e, k) (zero_behind l (saved values (take i saved_rows)) (omega arith) z)

    pub save_turn : (l : List ℕ) {bs after : List ℕ} → length l ≡ 8 * fresh_bytes → bs ≡ splice l 8 (saved values (take i saved_rows))
        → after ≡ splice bs at (entry_bits kind (entry_len kind width') (take (entry_len kind width') (drop place values))) → after ≡ splice l 8 (saved values (take (i + 1) saved_rows))
    save_turn l n e f =
        let own : List ℕ = entry_bits (at-nv i).kind (at-nv i).len (part values (at-nv i)) in
        let m : length own ≡ row_width (at-nv i) = length_entry (at-nv i).kind (at-nv i).len (part values (at-nv i)) (part_long values (at-nv i) row_kept lv) in
        let k : at ≡ 8 + length (saved values (take i saved_rows)) = let q = g.at_is in omega (arith, before_long) in
        f
        ∙ rw (e, p, ← len_here, g.kind_is, k)
        (splice_then l 8 (saved values (take i saved_rows)) own (let q = g.at_is in let w = g.width_is in omega (arith, room, before_long))
        ∙ ap (splice l 8) (sym (saved-next saved_rows i inside values)))

-- ---- the ends of the walks

-- none is left
none_left : drop nv_count saved_rows ≡ []
none_left = drop_of_length-le saved_rows {i = nv_count} (omega (arith, nv-length))

pub saved_end : (bs : List ℕ) → saved_front bs 8 saved_rows ≡ nv_count + saved_front bs (8 + widths (take nv_count saved_rows)) (drop nv_count saved_rows) → nv_count ≡ saved_front bs 8 saved_rows
unfolding saved_front
saved_end bs f = sym (f ∙ rw none_left (add-zero nv_count))

pub load_end : (bs first : List ℕ) → load_rows bs 8 (take nv_count saved_rows) first ≡ load_rows bs 8 saved_rows first
load_end bs first = ap (λ (l : List Row). load_rows bs 8 l first) (take_all nv_count saved_rows (omega (arith, nv-length)))

pub held_end : (values : List ℕ) → held_front values saved_rows ≡ nv_count + held_front values (drop nv_count saved_rows) → nv_count ≡ held_front values saved_rows
unfolding held_front
held_end values f = sym (f ∙ rw none_left (add-zero nv_count))

-- the numbers, known up to the end
pub all_known : (bs numbers : List ℕ) → length numbers ≡ nv_count → Front bs numbers nv_count → numbers ≡ saved_numbers bs 8 saved_rows
all_known bs numbers long known =
    sym (take_all nv_count numbers (omega arith)) ∙ known ∙ take_all nv_count (saved_numbers bs 8 saved_rows) (omega (arith, length_numbers bs 8 saved_rows, nv-length))

-- ---- their beginnings

pub saved_begin : (bs : List ℕ) → saved_front bs 8 saved_rows ≡ 0 + saved_front bs (8 + widths (take 0 saved_rows)) (drop 0 saved_rows)
unfolding widths
saved_begin bs = omega arith

pub held_begin : (values : List ℕ) → held_front values saved_rows ≡ 0 + held_front values (drop 0 saved_rows)
held_begin values = omega arith

pub load_begin : (bs first : List ℕ) → first ≡ load_rows bs 8 (take 0 saved_rows) first
unfolding load_rows
load_begin bs first = refl

pub save_begin : (l values : List ℕ) → l ≡ splice l 8 (saved values (take 0 saved_rows))
unfolding saved
save_begin l values = sym (splice_none l 8)
