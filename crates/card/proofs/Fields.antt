-- The fields of a trip point: each fits its bits, whether they come from the values or from a card. Assumes nothing.
use mathlib.Core.Path.{◌≡◌}
use mathlib.Core.List.{List, [], ◌∷◌}
use Prim.Native.Nat.{ℕ, zero, suc, ◌+◌, ◌^◌, ◌<◌}
use native.Mathlib.Nat.{lt_of_lt_of_le}
use native.Mathlib.Omega.{arith}
use lib.ListN.{length, take, drop, get_or, length-take}
use lib.Pow.{pow_mono, pow_pos}
use Rattle.wire.specs.Little.{number, put_number}
use Rattle.wire.specs.Flags.{is_set}
use Rattle.wire.proofs.FlagLaws.{bit_lt}
use Rattle.wire.proofs.LittleLaws.{Bytes, number_lt}
use Rattle.bits.specs.Bits.{bits, Small}
use Rattle.bits.specs.Fields.{decode, total, Packable}
use Rattle.bits.proofs.Numbers.{num_lt, small_take, small_drop, small_bits}
use Rattle.bits.proofs.Packing.{length-encode}
use Rattle.table.specs.Places.{high_enable, low_enable, high_level, low_level, high_hysteresis, low_hysteresis}
use Rattle.card.specs.Card.{point_widths, enable, point_fields, point_bits, fields_of, with_point}

pub enable_lt : (l : List ℕ) (at : ℕ) → enable l at < 2
unfolding enable
enable_lt l at = bit_lt (is_set l at)

pub point_enables : (l : List ℕ) (at : ℕ) → (get_or (point_fields l at) 0 0 < 2) × (get_or (point_fields l at) 1 0 < 2)
unfolding point_fields
point_enables l at = (enable_lt l (at + high_enable), enable_lt l (at + low_enable))

-- six numbers that were read
pub fields_are : (l : List ℕ) (at : ℕ) {a b c d e f : ℕ} → a ≡ enable l (at + high_enable) → b ≡ enable l (at + low_enable) → c ≡ number l (at + high_level) 4
    → d ≡ number l (at + high_hysteresis) 4 → e ≡ number l (at + low_level) 4 → f ≡ number l (at + low_hysteresis) 4 → ◌≡◌ {A = List ℕ} (a ∷ b ∷ c ∷ d ∷ e ∷ f ∷ []) (point_fields l at)
unfolding point_fields
fields_are l at a b c d e f = rw (a, b, c, d, e, f)

pub packable : (l : List ℕ) (at : ℕ) → Bytes l → Packable point_widths (point_fields l at)
unfolding Packable point_fields
packable l at h =
    omega (arith, enable_lt l (at + high_enable), enable_lt l (at + low_enable), number_lt l (at + high_level) 4 h, number_lt l (at + high_hysteresis) 4 h, number_lt l (at + low_level) 4 h, number_lt l (at + low_hysteresis) 4 h)

pub length_point : (l : List ℕ) (at : ℕ) → Bytes l → length (point_bits l at) ≡ 130
unfolding point_bits total
length_point l at h = length-encode point_widths (point_fields l at) (packable l at h)

decode_lt : (ws bs : List ℕ) (k : ℕ) → Small bs → get_or (decode ws bs) k 0 < 2 ^ get_or ws k 0
unfolding decode
decode_lt [] bs k h = pow_pos 0
decode_lt (w ∷ ws) bs zero h = lt_of_lt_of_le (num_lt (take w bs) (small_take w bs h)) (pow_mono (omega (arith, length-take w bs)))
decode_lt (w ∷ ws) bs (suc k) h = decode_lt ws (drop w bs) k (small_drop w bs h)

pub fields_lt : (card : List ℕ) (at k : ℕ) → get_or (fields_of card at) k 0 < 2 ^ get_or point_widths k 0
unfolding fields_of
fields_lt card at k = decode_lt point_widths (drop at (bits card)) k (small_drop at (bits card) (small_bits card))

-- six numbers, one after the other
pub point_written : (l a b c d e f fs : List ℕ) (to : ℕ)
    → a ≡ put_number l (to + high_enable) 1 (get_or fs 0 0) → b ≡ put_number a (to + low_enable) 1 (get_or fs 1 0) → c ≡ put_number b (to + high_level) 4 (get_or fs 2 0)
    → d ≡ put_number c (to + high_hysteresis) 4 (get_or fs 3 0) → e ≡ put_number d (to + low_level) 4 (get_or fs 4 0) → f ≡ put_number e (to + low_hysteresis) 4 (get_or fs 5 0)
    → f ≡ with_point l to fs
unfolding with_point
point_written l a b c d e f fs to ea eb ec ed ee ef = rw (ef, ee, ed, ec, eb, ea)
