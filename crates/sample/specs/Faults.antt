-- RULE: the fault word of a sample, the words that show it, and the summary byte.
use Rattle.std.specs.Prelude.{Bool, cond, List, ℕ, eqb}
use Rattle.std.specs.Int.Bits.{bit_and, bit_or}
use Rattle.wire.specs.Little.{number, put_number}
use Rattle.table.specs.Places.{sensor_error, active_word, latched_word, error_mask, summary_byte}

-- R11.1
unfoldable pub kept_faults : ℕ → ℕ
kept_faults faults = bit_and faults 0x603

-- active and latched word, masked or not (R11.2, R11.5)
unfoldable pub with_faults : ℕ → List ℕ → List ℕ
with_faults faults l =
    put_number (put_number (put_number l sensor_error 2 (kept_faults faults)) active_word 4 (kept_faults faults)) latched_word 4 (bit_or (kept_faults faults) (number l latched_word 4))

-- is each bit of a detail word hidden? A mask bit of 1 hides (R11.3)
unfoldable pub all_hidden : ℕ → ℕ → Bool
all_hidden word mask = eqb (bit_and word mask) word

-- bit 2, Device Error, while the active word has a bit that its mask does not hide (R11.3)
unfoldable pub summary_of : ℕ → ℕ → ℕ
summary_of active mask = cond (all_hidden active mask) 0 4

-- from active word and mask as they stand in the values
abbrev pub summary_in : List ℕ → ℕ
summary_in l = summary_of (number l active_word 4) (number l error_mask 4)

-- worked out anew (R11.4)
unfoldable pub with_summary : List ℕ → List ℕ
with_summary l = put_number l summary_byte 1 (summary_in l)
