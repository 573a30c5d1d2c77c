-- RULE: the places in the values that have names. tools/table.py writes this file; that they are the table's is computed in
-- proofs/Placed.antt, and that a row is told by such a span in the crate gauge. Assumes nothing.
use Rattle.std.specs.Prelude.{ℕ, ◌+◌, Bool, List, [], ◌∷◌, leb, eqb}
use Rattle.table.specs.Row.{Row}
use Rattle.table.specs.Walk.{both}

-- 2003:00
abbrev pub lock : ℕ
lock = 236

-- 6000:11
abbrev pub input_value : ℕ
input_value = 238

-- 6005:01
abbrev pub reading_valid : ℕ
reading_valid = 242

-- 6005:02
abbrev pub overrange : ℕ
overrange = 243

-- 6005:03
abbrev pub underrange : ℕ
underrange = 244

-- 600E:01
abbrev pub status_1 : ℕ
status_1 = 247

-- 600F:01
abbrev pub status_2 : ℕ
status_2 = 249

-- 800E:01
abbrev pub settings_1 : ℕ
settings_1 = 258

-- 800F:01
abbrev pub settings_2 : ℕ
settings_2 = 296

-- 9005:02
abbrev pub sensor_error : ℕ
sensor_error = 336

-- 900E:01
abbrev pub trip_input_1 : ℕ
trip_input_1 = 338

-- 900F:01
abbrev pub trip_input_2 : ℕ
trip_input_2 = 342

-- F380:00
abbrev pub summary_byte : ℕ
summary_byte = 354

-- F383:01
abbrev pub active_word : ℕ
active_word = 363

-- F390:00
abbrev pub latched_status : ℕ
latched_status = 387

-- F393:01
abbrev pub latched_word : ℕ
latched_word = 396

-- F3A1:01
abbrev pub masks : ℕ
masks = 420

-- F3A3:01
abbrev pub error_mask : ℕ
error_mask = 428

-- F641:01
abbrev pub trip_outputs : ℕ
trip_outputs = 452

-- F9F6:00
abbrev pub power_on_time : ℕ
power_on_time = 575

-- FBF0:02
abbrev pub reset_status : ℕ
reset_status = 587

-- FBF1:02
abbrev pub exception_status : ℕ
exception_status = 590

-- FBF2:02
abbrev pub store_status : ℕ
store_status = 593

-- FBF4:02
abbrev pub load_status : ℕ
load_status = 596

-- 800E:01 and 800F:01, counted from subindex 01
abbrev pub high_enable : ℕ
high_enable = 0

-- 800E:02 and 800F:02, counted from subindex 01
abbrev pub low_enable : ℕ
low_enable = 1

-- 800E:11 and 800F:11, counted from subindex 01
abbrev pub high_level : ℕ
high_level = 2

-- 800E:14 and 800F:14, counted from subindex 01
abbrev pub low_level : ℕ
low_level = 14

-- 800E:17 and 800F:17, counted from subindex 01
abbrev pub high_hysteresis : ℕ
high_hysteresis = 26

-- 800E:18 and 800F:18, counted from subindex 01
abbrev pub low_hysteresis : ℕ
low_hysteresis = 30

-- the bytes of F390 to F398, which stand behind each other
abbrev pub latched_size : ℕ
latched_size = 33

-- the bytes of F3A1 to F3A8, which stand behind each other
abbrev pub masks_size : ℕ
masks_size = 32

-- the bytes of 800E, which stand behind each other
abbrev pub settings_1_size : ℕ
settings_1_size = 38

-- the bytes of 800F, which stand behind each other
abbrev pub settings_2_size : ℕ
settings_2_size = 38

-- an entry, its place and its length
pub record Placed : Type 0 where
  pub index : ℕ
  pub sub : ℕ
  pub place : ℕ
  pub len : ℕ

abbrev pub placed : ℕ → ℕ → ℕ → ℕ → Placed
placed i s p n = record { index = i; sub = s; place = p; len = n }

unfoldable pub named_places : List Placed
named_places =
    placed 0x2003 0x00 lock 1 ∷
    placed 0x6000 0x11 input_value 4 ∷
    placed 0x6005 0x01 reading_valid 1 ∷
    placed 0x6005 0x02 overrange 1 ∷
    placed 0x6005 0x03 underrange 1 ∷
    placed 0x600E 0x01 status_1 1 ∷
    placed 0x600F 0x01 status_2 1 ∷
    placed 0x800E 0x01 settings_1 1 ∷
    placed 0x800F 0x01 settings_2 1 ∷
    placed 0x9005 0x02 sensor_error 2 ∷
    placed 0x900E 0x01 trip_input_1 4 ∷
    placed 0x900F 0x01 trip_input_2 4 ∷
    placed 0xF380 0x00 summary_byte 1 ∷
    placed 0xF383 0x01 active_word 4 ∷
    placed 0xF390 0x00 latched_status 1 ∷
    placed 0xF393 0x01 latched_word 4 ∷
    placed 0xF3A1 0x01 masks 4 ∷
    placed 0xF3A3 0x01 error_mask 4 ∷
    placed 0xF641 0x01 trip_outputs 4 ∷
    placed 0xF9F6 0x00 power_on_time 4 ∷
    placed 0xFBF0 0x02 reset_status 1 ∷
    placed 0xFBF1 0x02 exception_status 1 ∷
    placed 0xFBF2 0x02 store_status 1 ∷
    placed 0xFBF4 0x02 load_status 1 ∷
    placed 0x600E 0x02 (status_1 + 1) 1 ∷
    placed 0x600F 0x02 (status_2 + 1) 1 ∷
    placed 0xFBF0 0x03 (reset_status + 1) 2 ∷
    placed 0xFBF1 0x03 (exception_status + 1) 2 ∷
    placed 0xFBF2 0x03 (store_status + 1) 2 ∷
    placed 0xFBF4 0x03 (load_status + 1) 2 ∷
    placed 0x800E 0x01 (settings_1 + high_enable) 1 ∷
    placed 0x800E 0x02 (settings_1 + low_enable) 1 ∷
    placed 0x800E 0x11 (settings_1 + high_level) 4 ∷
    placed 0x800E 0x14 (settings_1 + low_level) 4 ∷
    placed 0x800E 0x17 (settings_1 + high_hysteresis) 4 ∷
    placed 0x800E 0x18 (settings_1 + low_hysteresis) 4 ∷
    placed 0x800F 0x01 (settings_2 + high_enable) 1 ∷
    placed 0x800F 0x02 (settings_2 + low_enable) 1 ∷
    placed 0x800F 0x11 (settings_2 + high_level) 4 ∷
    placed 0x800F 0x14 (settings_2 + low_level) 4 ∷
    placed 0x800F 0x17 (settings_2 + high_hysteresis) 4 ∷
    placed 0x800F 0x18 (settings_2 + low_hysteresis) 4 ∷
    []

-- what an exception reset clears: every subindex of F390 to F398
unfoldable pub latched : Row → Bool
latched r = both (leb 0xF390 r.index) (leb r.index 0xF398)

-- the masks of the detail words: every subindex of F3A1 to F3A8
unfoldable pub is_mask : Row → Bool
is_mask r = both (leb 0xF3A1 r.index) (leb r.index 0xF3A8)

-- the settings of trip point 1: every subindex of 800E
unfoldable pub of_point_1 : Row → Bool
of_point_1 r = eqb r.index 0x800E

-- the settings of trip point 2: every subindex of 800F
unfoldable pub of_point_2 : Row → Bool
of_point_2 r = eqb r.index 0x800F
