-- What the calls of `load` and `store` say, put together. Over plain variables. Assumes nothing.
use mathlib.Core.Bool.{Bool, true, false, ◌&&◌, and-true, and-false}
use mathlib.Core.List.{List, [], ◌∷◌, ◌++◌, append_assoc}
use mathlib.Core.Path.{◌≡◌, refl, sym, ap, ◌∙◌}
use Prim.Native.Nat.{ℕ, zero, suc, ◌+◌, ◌-◌, ◌*◌, ◌≤◌, ◌<◌}
use native.Mathlib.Omega.{arith}
use lib.Dec.{eqb}
use lib.ListN.{length, take, drop, replicate, length-append, length-replicate, replicate-append-replicate}
use lib.Seq.{take_all}
use borrow.Author.Tests.{eq-eqb, ne_eqb}
use Rattle.bits.proofs.Numbers.{length-msb, bytes_of, bits-append}
use Rattle.wire.proofs.LittleLaws.{Bytes}
use Rattle.bits.specs.Bits.{msb, bits, field, packed}
use Rattle.block.proofs.Straight.{straight_known, loadable-over}
use Rattle.block.proofs.Turns.{nv_keep, nv-length, nv-ends}
use Rattle.block.proofs.Walking.{length-saved, held_all_good, saved_all_good, held-most}
use Rattle.block.proofs.Zeros.{zero_field}
use Rattle.block.specs.Asked.{fresh_bytes, held_front, saved_front, saved_numbers, straight_by}
use Rattle.block.specs.Block.{LAYOUT, BAG552, widths, saved, load_rows, values_good, rows_good, all_zero, block_of, headed, good}
use Rattle.block.specs.Saved.{saved_rows, storable, stored_block, loadable, loaded, leaves_straight}
use Rattle.crossed.specs.Crossed.{straight}
use Rattle.table.specs.Rows.{nv_count, nv_end}
use Rattle.wire.proofs.SpliceLaws.{splice_behind}
use Rattle.wire.specs.Splice.{splice}

-- ---- the rest, by bytes

pub rest_zero : (bs : List ℕ) (end first : ℕ) {n : ℕ} → end ≤ 8 * first → n ≡ field bs end (8 * first - end)
    → all_zero (drop end bs) ≡ (eqb n 0 && all_zero (drop (8 * first) bs))
rest_zero bs end first {n} h e =
    let k : end + (8 * first - end) ≡ 8 * first = omega arith in
    zero_field bs end (8 * first - end) e ∙ ap (λ (j : ℕ). eqb n 0 && all_zero (drop j bs)) k

-- ---- what a load takes

-- a block that is not good
not_good : (block : List ℕ) → good BAG552 (bits block) saved_rows ≡ false → false ≡ loadable block
unfolding loadable
not_good block e = sym (rw e)

-- a block with another head
pub head_bad : (block : List ℕ) {head : Bool} → head ≡ headed BAG552 (bits block) → head ≡ false → false ≡ loadable block
unfolding good
head_bad block e f = not_good block (rw (sym e ∙ f))

module _ (block : List ℕ) {head : Bool} (is-head : head ≡ headed BAG552 (bits block)) (h : head ≡ true) {rest : Bool} (is-rest : rest ≡ all_zero (drop nv_end (bits block))) where
  by_parts : good BAG552 (bits block) saved_rows ≡ (rows_good (bits block) 8 saved_rows && rest)
  unfolding good
  by_parts =
      rw (sym is-head ∙ h)
      (ap (λ (k : ℕ). rows_good (bits block) 8 saved_rows && all_zero (drop k (bits block))) nv-ends ∙ ap (λ (b : Bool). rows_good (bits block) 8 saved_rows && b) (sym is-rest))

  pub rest_bad : rest ≡ false → false ≡ loadable block
  rest_bad z = not_good block (by_parts ∙ rw z (and-false (rows_good (bits block) 8 saved_rows)))

  module _ (z : rest ≡ true) {all : Bool} (is-all : all ≡ eqb (saved_front (bits block) 8 saved_rows) nv_count) where
    by_entries : good BAG552 (bits block) saved_rows ≡ all
    by_entries =
        by_parts ∙ ap (λ (b : Bool). rows_good (bits block) 8 saved_rows && b) z ∙ and-true _
        ∙ saved_all_good (bits block) 8 saved_rows
        ∙ ap (eqb (saved_front (bits block) 8 saved_rows)) nv-length
        ∙ sym is-all

    pub entry_bad : all ≡ false → false ≡ loadable block
    entry_bad e = not_good block (by_entries ∙ e)

    -- all entries are good, and an answer says whether a trip point is crossed
    pub by_points : all ≡ true → length block ≡ 512 → {numbers : List ℕ} → numbers ≡ saved_numbers (bits block) 8 saved_rows → {answer : Bool} → answer ≡ straight_by numbers → answer ≡ loadable block
    by_points e lb known says =
        says
        ∙ straight_known block lb (replicate 1024 0) refl known
        ∙ sym (loadable-over block lb (replicate 1024 0) refl ∙ ap (λ (b : Bool). b && leaves_straight block (replicate 1024 0)) (by_entries ∙ e))

-- ---- the block that is stored

bits_zero : (n : ℕ) → bits (replicate n 0) ≡ replicate (8 * n) 0
unfolding bits msb
bits_zero zero = refl
bits_zero (suc n) =
    let e : 8 * suc n ≡ 8 + 8 * n = omega arith in
    ap (λ (l : List ℕ). 0 ∷ 0 ∷ 0 ∷ 0 ∷ 0 ∷ 0 ∷ 0 ∷ 0 ∷ l) (bits_zero n)
    ∙ replicate-append-replicate {A = ℕ} 8 (8 * n) 0
    ∙ ap (λ (k : ℕ). replicate {A = ℕ} k 0) (sym e)

drop-replicate : (n m : ℕ) → drop {A = ℕ} n (replicate m 0) ≡ replicate (m - n) 0
drop-replicate zero m =
    let e : m ≡ m - 0 = omega arith in
    ap (λ (k : ℕ). replicate {A = ℕ} k 0) e
drop-replicate (suc n) zero =
    let e : 0 ≡ 0 - suc n = omega arith in
    ap (λ (k : ℕ). replicate {A = ℕ} k 0) e
drop-replicate (suc n) (suc m) =
    let e : m - n ≡ suc m - suc n = omega arith in
    drop-replicate n m ∙ ap (λ (k : ℕ). replicate {A = ℕ} k 0) e

-- written one after the other into a fresh block of zeros
fresh-bits : (values : List ℕ) → length values ≡ 1024
    → splice (splice (splice (bits (replicate fresh_bytes 0)) 0 (msb 4 LAYOUT)) 4 (msb 4 BAG552)) 8 (saved values saved_rows) ≡ (msb 4 LAYOUT ++ (msb 4 BAG552 ++ saved values saved_rows)) ++ replicate (8 * fresh_bytes - (8 + widths saved_rows)) 0
unfolding splice
fresh-bits values e =
    let z : List ℕ = replicate (8 * fresh_bytes) 0 in
    let a : List ℕ = msb 4 LAYOUT in
    let b : List ℕ = msb 4 BAG552 in
    let s : List ℕ = saved values saved_rows in
    let la : 0 + length a ≡ 4 = omega (arith, length-msb 4 LAYOUT) in
    let lb : length b ≡ 4 = length-msb 4 BAG552 in
    let ls : length s ≡ widths saved_rows = length-saved values saved_rows nv_keep e in
    let lz : length z ≡ 8 * fresh_bytes = length-replicate {A = ℕ} (8 * fresh_bytes) 0 in
    let n : 0 + length (a ++ (b ++ s)) ≡ 8 + widths saved_rows = omega (arith, length-append a (b ++ s), length-append b s) in
    ap (λ (l : List ℕ). splice (splice (splice l 0 a) 4 b) 8 s) (bits_zero fresh_bytes)
    ∙ ap (λ (l : List ℕ). splice l 8 s) (splice_behind z 0 a b 4 la (omega arith))
    ∙ splice_behind z 0 (a ++ b) s 8 (omega (arith, length-append a b)) (omega (arith, nv-ends))
    ∙ ap (splice z 0) (append_assoc a b s)
    ∙ ap (λ (k : ℕ). (a ++ (b ++ s)) ++ drop k z) n
    ∙ ap (λ (l : List ℕ). (a ++ (b ++ s)) ++ l) (drop-replicate (8 + widths saved_rows) (8 * fresh_bytes))

-- the zeros behind a fresh block
zeros_on : replicate {A = ℕ} (8 * fresh_bytes - (8 + widths saved_rows)) 0 ++ bits (replicate (512 - fresh_bytes) 0) ≡ replicate (4096 - (8 + widths saved_rows)) 0
zeros_on =
    let n : 8 * fresh_bytes - (8 + widths saved_rows) + 8 * (512 - fresh_bytes) ≡ 4096 - (8 + widths saved_rows) = omega (arith, nv-ends) in
    ap (λ (l : List ℕ). replicate {A = ℕ} (8 * fresh_bytes - (8 + widths saved_rows)) 0 ++ l) (bits_zero (512 - fresh_bytes))
    ∙ replicate-append-replicate {A = ℕ} (8 * fresh_bytes - (8 + widths saved_rows)) (8 * (512 - fresh_bytes)) 0
    ∙ ap (λ (k : ℕ). replicate {A = ℕ} k 0) n

stored-bits : (values fresh : List ℕ) → length values ≡ 1024 → bits fresh ≡ splice (splice (splice (bits (replicate fresh_bytes 0)) 0 (msb 4 LAYOUT)) 4 (msb 4 BAG552)) 8 (saved values saved_rows)
    → bits (fresh ++ replicate (512 - fresh_bytes) 0) ≡ block_of BAG552 values saved_rows
unfolding block_of
stored-bits values fresh e w =
    let a : List ℕ = msb 4 LAYOUT in
    let b : List ℕ = msb 4 BAG552 in
    let s : List ℕ = saved values saved_rows in
    let y : List ℕ = bits (replicate (512 - fresh_bytes) 0) in
    let z : List ℕ = replicate (4096 - (8 + widths saved_rows)) 0 in
    bits-append fresh (replicate (512 - fresh_bytes) 0)
    ∙ ap (λ (l : List ℕ). l ++ y) (w ∙ fresh-bits values e)
    ∙ append_assoc (a ++ (b ++ s)) (replicate (8 * fresh_bytes - (8 + widths saved_rows)) 0) y
    ∙ ap (λ (l : List ℕ). (a ++ (b ++ s)) ++ l) zeros_on
    ∙ append_assoc a (b ++ s) z
    ∙ ap (λ (l : List ℕ). a ++ l) (append_assoc b s z)

-- a fresh block over a cleared one
pub fresh-over : (fresh : List ℕ) {n : ℕ} {cleared done : List ℕ} → n ≡ 512 → length fresh ≡ fresh_bytes → cleared ≡ replicate n 0 → done ≡ splice cleared 0 fresh
    → done ≡ fresh ++ replicate (512 - fresh_bytes) 0
unfolding splice
fresh-over fresh n l c d =
    let m : 0 + length fresh ≡ fresh_bytes = omega arith in
    d
    ∙ ap (λ (x : List ℕ). splice x 0 fresh) (c ∙ ap (λ (k : ℕ). replicate {A = ℕ} k 0) n)
    ∙ ap (λ (k : ℕ). fresh ++ drop {A = ℕ} k (replicate 512 0)) m
    ∙ ap (λ (x : List ℕ). fresh ++ x) (drop-replicate fresh_bytes 512)

-- they are bytes
bytes_zeros : (n : ℕ) → Bytes (replicate n 0)
bytes_zeros zero k = omega arith
bytes_zeros (suc n) zero = omega arith
bytes_zeros (suc n) (suc k) = bytes_zeros n k

bytes_behind : (xs ys : List ℕ) → Bytes xs → Bytes ys → Bytes (xs ++ ys)
bytes_behind [] ys a b k = b k
bytes_behind (x ∷ xs) ys a b zero = a 0
bytes_behind (x ∷ xs) ys a b (suc k) = bytes_behind xs ys (λ j. a (suc j)) b k

-- 512 bytes with these bits
bytes-with : (block : List ℕ) {bs : List ℕ} → Bytes block → length block ≡ 512 → bits block ≡ bs → block ≡ packed 512 bs
bytes-with block h n e = sym (bytes_of block h) ∙ ap (λ (k : ℕ). packed k (bits block)) n ∙ ap (packed 512) e

-- values with a crossed trip point
pub store-crossed : (values block : List ℕ) {answer : Bool} → answer ≡ straight values → answer ≡ false → (false ≡ storable values) × (block ≡ stored_block values block)
unfolding storable stored_block
store-crossed values block says e =
    let f : storable values ≡ false = rw (← says, e) (and-false (values_good values saved_rows)) in
    (sym f, sym (rw f))

module _ (values block : List ℕ) (is-straight : straight values ≡ true) {n : ℕ} (is_front : n ≡ held_front values saved_rows) where
  by_front_held : storable values ≡ eqb n nv_count
  unfolding storable
  by_front_held =
      rw is-straight (and-true (values_good values saved_rows))
      ∙ held_all_good values saved_rows ∙ ap (λ (k : ℕ). eqb k (length saved_rows)) (sym is_front) ∙ ap (eqb n) nv-length

  pub store-refused : n < nv_count → (false ≡ storable values) × (block ≡ stored_block values block)
  unfolding stored_block
  store-refused h =
      let e : storable values ≡ false = by_front_held ∙ ne_eqb n nv_count (λ q. omega arith) in
      (sym e, sym (rw e))

  pub store-done : nv_count ≤ n → length values ≡ 1024 → (fresh : List ℕ) {done : List ℕ} → bits fresh ≡ splice (splice (splice (bits (replicate fresh_bytes 0)) 0 (msb 4 LAYOUT)) 4 (msb 4 BAG552)) 8 (saved values (take n saved_rows))
      → done ≡ fresh ++ replicate (512 - fresh_bytes) 0 → Bytes fresh → length done ≡ 512 → (true ≡ storable values) × (done ≡ stored_block values block)
  unfolding stored_block
  store-done h lv fresh {done} w d hb l =
      let q : n ≡ nv_count = omega (arith, held-most values saved_rows, nv-length) in
      let e : storable values ≡ true = by_front_held ∙ eq-eqb n nv_count q in
      let z : take n saved_rows ≡ saved_rows = take_all n saved_rows (omega (arith, nv-length)) in
      let f : bits done ≡ block_of BAG552 values saved_rows = ap bits d ∙ stored-bits values fresh lv (w ∙ rw z) in
      (sym e, bytes-with done (rw d (bytes_behind fresh (replicate (512 - fresh_bytes) 0) hb (bytes_zeros (512 - fresh_bytes)))) l f ∙ sym (rw e))

-- ---- the values that are loaded

module _ (block values : List ℕ) {taken : Bool} (says : taken ≡ loadable block) where
  pub load_refused : taken ≡ false → (false ≡ loadable block) × (values ≡ loaded block values)
  unfolding loaded
  load_refused e =
      let f : loadable block ≡ false = sym says ∙ e in
      (sym f, sym (rw f))

  pub load_done : taken ≡ true → {after : List ℕ} → after ≡ load_rows (bits block) 8 saved_rows values → (true ≡ loadable block) × (after ≡ loaded block values)
  unfolding loaded
  load_done e p =
      let f : loadable block ≡ true = sym says ∙ e in
      (sym f, p ∙ sym (rw f))

-- ---- a block without entries

pub header_only : (cleared one two : List ℕ) → cleared ≡ replicate fresh_bytes 0 → bits one ≡ splice (bits cleared) 0 (msb 4 LAYOUT) → bits two ≡ splice (bits one) 4 (msb 4 BAG552)
    → bits two ≡ splice (splice (bits (replicate fresh_bytes 0)) 0 (msb 4 LAYOUT)) 4 (msb 4 BAG552)
header_only cleared one two z b c = c ∙ ap (λ (x : List ℕ). splice x 4 (msb 4 BAG552)) (b ∙ ap (λ (x : List ℕ). splice (bits x) 0 (msb 4 LAYOUT)) z)

pub no_entries : all_zero (drop 8 (splice (splice (bits (replicate fresh_bytes 0)) 0 (msb 4 LAYOUT)) 4 (msb 4 BAG552))) ≡ true
unfolding all_zero splice bits msb
no_entries = refl
