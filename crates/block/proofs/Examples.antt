-- A worked example: the block of the defaults, byte by byte. Assumes nothing.
use mathlib.Core.List.{List, [], ◌∷◌, ◌++◌}
use mathlib.Core.Path.{◌≡◌, refl}
use Prim.Native.Nat.{ℕ}
use lib.Ieee.{lt, is_nan, of_bits, of_fields}
use lib.ListN.{replicate}
use Rattle.bits.specs.Bits.{msb, bits, num_from, num, packed}
use Rattle.crossed.specs.Crossed.{crossed, crossed_at, straight}
use Rattle.entry.specs.Entry.{with_entry, default_of, defaulted, defaults}
use Rattle.limits.specs.Limits.{verdict_code, first_fault, whole_verdict, real_verdict, by_kind, kind_verdict, number_verdict}
use Rattle.table.specs.Rows.{rows}
use Rattle.table.specs.Rule.{pick, held}
use Rattle.wire.specs.Little.{little, from_little, number}
use Rattle.wire.specs.Splice.{splice}
use Rattle.block.specs.Block.{width, entry_bits, within, nv_rows, widths, saved, values_good, block_of}
use Rattle.block.specs.Saved.{storable, stored_block}

-- layout and model, 31 bytes of the label, and the bytes from the label's last on to the last that is not zero
pub default_bytes : List ℕ
default_bytes =
    (0x11 ∷ replicate 31 0) ++
    (
    0x00 ∷ 0x00 ∷ 0x40 ∷ 0x00 ∷ 0x00 ∷ 0x00 ∷ 0x00 ∷ 0x00 ∷ 0x00 ∷ 0x00 ∷ 0x08 ∷ 0x00 ∷ 0xE1 ∷ 0x10 ∷ 0x00 ∷ 0x00 ∷
    0x00 ∷ 0x00 ∷ 0x00 ∷ 0x00 ∷ 0x00 ∷ 0x00 ∷ 0x08 ∷ 0x00 ∷ 0xE1 ∷ 0x40 ∷ 0x00 ∷ 0x00 ∷ 0x00 ∷ 0x00 ∷ 0x00 ∷ 0x00 ∷
    0x00 ∷ 0x00 ∷ 0x00 ∷ 0x00 ∷ 0x00 ∷ 0x00 ∷ 0x06 ∷ 0x00 ∷ 0x01 ∷ 0x10 ∷ 0x00 ∷ 0x00 ∷ 0x00 ∷ 0x00 ∷ 0x02 ∷ 0x00 ∷
    0x3C ∷ 0x44 ∷ 0x00 ∷ 0x00 ∷ 0x00 ∷ 0x00 ∷ 0x00 ∷ 0x00 ∷ 0x00 ∷ 0x00 ∷ 0x02 ∷ 0x00 ∷ 0x3C ∷ 0x50 ∷ 0x00 ∷ 0x00 ∷
    0x00 ∷ 0x00 ∷ 0x00 ∷ 0x00 ∷ 0x00 ∷ 0x00 ∷ 0x00 ∷ 0x00 ∷ 0x00 ∷ 0x00 ∷ 0x01 ∷ 0x80 ∷ 0x00 ∷ 0x44 ∷ 0x00 ∷ 0x00 ∷
    0x00 ∷ 0x00 ∷ 0x00 ∷ 0x00 ∷ 0x00 ∷ 0x00 ∷ 0x00 ∷ 0x00 ∷ 0x00 ∷ 0x00 ∷ 0x00 ∷ 0x00 ∷ 0x00 ∷ 0x00 ∷ 0x00 ∷ 0x00 ∷
    0x00 ∷ 0x00 ∷ 0x00 ∷ 0x00 ∷ 0x00 ∷ 0x00 ∷ 0x00 ∷ 0x00 ∷ 0x00 ∷ 0x00 ∷ 0x00 ∷ 0x00 ∷ 0x00 ∷ 0x00 ∷ 0x00 ∷ 0x00 ∷
    0x88 ∷ 0x00 ∷ 0x00 ∷ 0x04 ∷
    [])

pub default_block : stored_block (defaults rows (replicate 1024 0)) [] ≡ default_bytes ++ replicate 364 0
unfolding default_bytes rows msb bits num_from num packed with_entry default_of defaulted defaults number_verdict verdict_code first_fault whole_verdict real_verdict by_kind kind_verdict pick held little from_little number splice width entry_bits within nv_rows widths saved values_good block_of crossed crossed_at straight storable stored_block lt is_nan of_bits of_fields
default_block = refl
