-- The laws of one entry in the block: its width, its bits and bytes there and back, its limits. Assumes nothing.
use mathlib.Core.Bool.{true}
use mathlib.Core.List.{List, ◌++◌}
use mathlib.Core.Logic.{⊎_elim}
use mathlib.Core.Path.{◌≡◌, refl, sym, ap, ◌∙◌}
use Prim.Native.Nat.{ℕ, ◌+◌, ◌*◌, ◌/◌, ◌^◌, ◌≤◌, ◌<◌}
use native.Mathlib.Nat.{lt_of_lt_of_le}
use native.Mathlib.Omega.{arith}
use Rattle.std.specs.Prelude.{Ok, Err}
use lib.Dec.{eqb}
use lib.ListN.{length, take, drop}
use lib.Pow.{pow_mono}
use lib.Seq.{take_at, length-take-le}
use borrow.Author.Tests.{eq-eqb, ne_eqb, le-leb, lt-leb}
use Rattle.bits.proofs.Numbers.{length-msb, length-bits, num-msb, msb-num, num_lt, small_take, small_msb, small_bits, length-packed, packed-bits, bits-packed}
use Rattle.bits.proofs.Parts.{field_fits}
use Rattle.bits.specs.Bits.{msb, bits, num, field, packed, Small}
use Rattle.block.specs.Asked.{Sized, entry_len}
use Rattle.block.specs.Block.{width, entry_bits, entry_bytes, within}
use Rattle.limits.proofs.RowVerdicts.{no_number, bool_within}
use Rattle.limits.specs.Limits.{Verdict, within as none_wrong, number_len, verdict_code}
use Rattle.limits.specs.declared.Outside.TheVariants.{NotANumber, Above, Below}
use Rattle.table.proofs.Walks.{lt_or_ge}
use Rattle.table.specs.Row.{Row, BOOL, REAL}
use Rattle.wire.proofs.LittleLaws.{Bytes, length-little, from_little-little, little-from, number_lt}
use Rattle.wire.specs.Little.{little, from_little, number}

-- an entry is a number or a string
pub number_or_string : {A : Type 0} (kind : ℕ) → (kind ≤ REAL → A) → (REAL < kind → A) → A
number_or_string kind f g = ⊎_elim g f (lt_or_ge REAL kind)

-- ---- its width

pub width_bool : (kind len : ℕ) → kind ≡ BOOL → width kind len ≡ 1
unfolding width
width_bool kind len e = rw (eq-eqb kind BOOL e)

pub width-bytes : (kind len : ℕ) → BOOL < kind → width kind len ≡ 8 * len
unfolding width
width-bytes kind len h = rw (ne_eqb kind BOOL (λ e. omega arith))

-- at most its bytes' bits
pub width-most : (kind len : ℕ) → 1 ≤ len → width kind len ≤ 8 * len
width-most kind len h =
    ⊎_elim (λ g. omega (arith, width-bytes kind len g)) (λ g. omega (arith, width_bool kind len (omega arith))) (lt_or_ge BOOL kind)

pub width_some : (kind len : ℕ) → 1 ≤ len → 1 ≤ width kind len
width_some kind len h =
    ⊎_elim (λ g. omega (arith, width-bytes kind len g)) (λ g. omega (arith, width_bool kind len (omega arith))) (lt_or_ge BOOL kind)

-- ---- its bits and bytes

module _ (kind len : ℕ) (bytes : List ℕ) where
  pub bits-number : kind ≤ REAL → entry_bits kind len bytes ≡ msb (width kind len) (from_little bytes)
  unfolding entry_bits
  bits-number h = rw (le-leb kind REAL h)

  pub bits_string : REAL < kind → entry_bits kind len bytes ≡ bits bytes
  unfolding entry_bits
  bits_string h = rw (lt-leb kind REAL h)

  pub bytes-number : kind ≤ REAL → entry_bytes kind len bytes ≡ little len (num (take (width kind len) bytes))
  unfolding entry_bytes
  bytes-number h = rw (le-leb kind REAL h)

  pub bytes_string : REAL < kind → entry_bytes kind len bytes ≡ packed len bytes
  unfolding entry_bytes
  bytes_string h = rw (lt-leb kind REAL h)

pub length_entry : (kind len : ℕ) (bytes : List ℕ) → length bytes ≡ len → length (entry_bits kind len bytes) ≡ width kind len
length_entry kind len bytes e =
    number_or_string kind
    (λ h. ap length (bits-number kind len bytes h) ∙ length-msb (width kind len) _)
    (λ h. ap length (bits_string kind len bytes h) ∙ omega (arith, length-bits bytes, width-bytes kind len (omega arith)))

pub length-bytes : (kind len : ℕ) (bs : List ℕ) → length (entry_bytes kind len bs) ≡ len
length-bytes kind len bs =
    number_or_string kind
    (λ h. ap length (bytes-number kind len bs h) ∙ length-little len _)
    (λ h. ap length (bytes_string kind len bs h) ∙ length-packed len bs)

pub small_entry : (kind len : ℕ) (bytes : List ℕ) → Small (entry_bits kind len bytes)
small_entry kind len bytes =
    number_or_string kind
    (λ h. rw (bits-number kind len bytes h) (small_msb (width kind len) (from_little bytes)))
    (λ h. rw (bits_string kind len bytes h) (small_bits bytes))

-- what was saved loads
pub entry_back : (kind len : ℕ) (bytes rest : List ℕ) → Bytes bytes → length bytes ≡ len → (kind ≤ REAL → from_little bytes < 2 ^ width kind len)
    → entry_bytes kind len (entry_bits kind len bytes ++ rest) ≡ bytes
entry_back kind len bytes rest hb e fits =
    number_or_string kind
    (λ h.
    ap (λ (x : List ℕ). entry_bytes kind len (x ++ rest)) (bits-number kind len bytes h)
    ∙ bytes-number kind len _ h
    ∙ ap (λ (x : List ℕ). little len (num x)) (take_at (msb (width kind len) (from_little bytes)) rest (width kind len) (length-msb (width kind len) _))
    ∙ ap (little len) (num-msb (width kind len) (from_little bytes) (fits h))
    ∙ ap (λ (n : ℕ). little n (from_little bytes)) (sym e)
    ∙ little-from bytes hb)
    (λ h.
    ap (λ (x : List ℕ). entry_bytes kind len (x ++ rest)) (bits_string kind len bytes h)
    ∙ bytes_string kind len _ h
    ∙ ap (λ (n : ℕ). packed n (bits bytes ++ rest)) (sym e)
    ∙ packed-bits bytes rest hb)

-- the number that was loaded
pub number-back : (kind len : ℕ) (bs : List ℕ) → Small bs → width kind len ≤ length bs → 1 ≤ len → kind ≤ REAL → from_little (entry_bytes kind len bs) ≡ num (take (width kind len) bs)
number-back kind len bs sm room some h =
    let w : ℕ = width kind len in
    let t : List ℕ = take w bs in
    let n : length t ≡ w = length-take-le w bs room in
    let q : num t < 2 ^ (8 * len) = lt_of_lt_of_le (num_lt t (small_take w bs sm)) (rw n (pow_mono (width-most kind len some))) in
    ap from_little (bytes-number kind len bs h) ∙ from_little-little len (num t) q

-- what was loaded is saved
pub back_entry : (kind len : ℕ) (bs : List ℕ) → Small bs → width kind len ≤ length bs → 1 ≤ len
    → entry_bits kind len (entry_bytes kind len bs) ≡ take (width kind len) bs
back_entry kind len bs sm room some =
    number_or_string kind
    (λ h.
    let w : ℕ = width kind len in
    bits-number kind len _ h
    ∙ ap (msb w) (number-back kind len bs sm room some h)
    ∙ msb-num w (take w bs) (small_take w bs sm) (length-take-le w bs room))
    (λ h.
    let e : width kind len ≡ 8 * len = width-bytes kind len (omega arith) in
    ap (entry_bits kind len) (bytes_string kind len bs h)
    ∙ bits_string kind len _ h
    ∙ bits-packed len bs sm (omega arith)
    ∙ ap (λ (k : ℕ). take k bs) (sym e))

-- ---- its limits

pub no_code : (x : Verdict) → eqb (verdict_code x) 0 ≡ true → x ≡ none_wrong
unfolding verdict_code
no_code (Ok u) e = refl
no_code (Err NotANumber) e = absurd cc
no_code (Err Above) e = absurd cc
no_code (Err Below) e = absurd cc

pub within_string : (r : Row) (v : ℕ) → REAL < r.kind → true ≡ within r v
unfolding within verdict_code
within_string r v h = ap (λ (x : Verdict). eqb (verdict_code x) 0) (no_number r v h)

-- a BOOL that is within its limits is 0 or 1
pub within_bool : (r : Row) (v : ℕ) → r.kind ≡ BOOL → r.high ≤ 1 → within r v ≡ true → v ≤ 1
unfolding within
within_bool r v b h e = bool_within r v b h (no_code _ e)

-- a number of at most four bytes
pub number-narrow : (values : List ℕ) (place len : ℕ) → Bytes values → len ≤ 4 → number values place len < 4294967296
number-narrow values place len hb h = lt_of_lt_of_le (number_lt values place len hb) (pow_mono {j = 32} (omega arith))

-- ---- its number and its bytes, by its type

len-number : (kind w : ℕ) → kind ≤ REAL → entry_len kind w ≡ number_len kind
unfolding entry_len
len-number kind w h = rw (le-leb kind REAL h)

pub len_string : (kind w : ℕ) → REAL < kind → entry_len kind w ≡ w / 8
unfolding entry_len
len_string kind w h = rw (lt-leb kind REAL h)

-- an entry that is taken out of a block, and one that is saved in it
module _ (kind w : ℕ) (at_width : w ≡ width kind (entry_len kind w)) where
  pub taken_string : (bs : List ℕ) → REAL < kind → packed (w / 8) bs ≡ entry_bytes kind (entry_len kind w) bs
  taken_string bs h = ap (λ (n : ℕ). packed n bs) (sym (len_string kind w h)) ∙ sym (bytes_string kind (entry_len kind w) bs h)

  pub taken-number : (bs : List ℕ) (at : ℕ) {v : ℕ} → kind ≤ REAL → v ≡ field bs at w → little (number_len kind) v ≡ entry_bytes kind (entry_len kind w) (drop at bs)
  unfolding field
  taken-number bs at h e =
      ap (little (number_len kind)) (e ∙ ap (λ (k : ℕ). num (take k (drop at bs))) at_width)
      ∙ ap (λ (n : ℕ). little n (num (take (width kind (entry_len kind w)) (drop at bs)))) (sym (len-number kind w h))
      ∙ sym (bytes-number kind (entry_len kind w) (drop at bs) h)

  pub saved_string : (values : List ℕ) (place : ℕ) → REAL < kind → bits (take (w / 8) (drop place values)) ≡ entry_bits kind (entry_len kind w) (take (entry_len kind w) (drop place values))
  saved_string values place h =
      ap (λ (n : ℕ). bits (take n (drop place values))) (sym (len_string kind w h)) ∙ sym (bits_string kind (entry_len kind w) (take (entry_len kind w) (drop place values)) h)

  pub saved_as_field : (values : List ℕ) (place : ℕ) {v : ℕ} → kind ≤ REAL → v ≡ number values place (number_len kind) → msb w v ≡ entry_bits kind (entry_len kind w) (take (entry_len kind w) (drop place values))
  unfolding number
  saved_as_field values place h e =
      ap (msb w) (e ∙ ap (number values place) (sym (len-number kind w h)))
      ∙ ap (λ (k : ℕ). msb k (number values place (entry_len kind w))) at_width
      ∙ sym (bits-number kind (entry_len kind w) (take (entry_len kind w) (drop place values)) h)

  module _ {place : ℕ} (z : Sized kind (entry_len kind w) place) where
    pub entry_some : 1 ≤ w
    entry_some = omega (arith, width_some kind (entry_len kind w) z.some)

    pub entry_narrow : kind ≤ REAL → w ≤ 32
    entry_narrow h = omega (arith, width-most kind (entry_len kind w) z.some, z.short h)

    pub number-inside : kind ≤ REAL → place + number_len kind ≤ 1024
    number-inside h = omega (arith, len-number kind w h, z.inside)

    -- the number of a saved entry fits its bytes
    pub number_fits : (block : List ℕ) (at : ℕ) {v : ℕ} → kind ≤ REAL → v ≡ field (bits block) at w → v < 2 ^ (8 * number_len kind)
    number_fits block at h e =
        rw e (field_fits block at w (8 * number_len kind) (omega (arith, len-number kind w h, width-most kind (entry_len kind w) z.some)))
