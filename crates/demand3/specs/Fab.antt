-- RULE: THE FAB'S STORY as a conversation with samples: over temperature is masked and unmasked, by a write and by a load (R11.3 to R11.5). Assumes nothing.
use Rattle.std.specs.Prelude.{List, [], ◌∷◌, ℕ}
use Rattle.std.specs.Float.{binary32}
use Rattle.std.specs.Float.Ieee.{of_bits}
use Rattle.demand3.specs.Firmware.{Exported, to_sample, Back, back}
use Rattle.demand3.specs.Conversation.{Case, on, asks, expects, saves, loads}

-- a message with its answer, or a sample of pressure 0.5 that brings a fault word
pub data Turn : Type 0 where
  says : Case → Turn
  brings : ℕ → Turn

abbrev pub asked_in : Turn → Exported
asked_in (says c) = asks c
asked_in (brings faults) = to_sample (record { pressure = of_bits binary32 0x3f000000; valid = 1; faults = faults; seconds = 1 })

abbrev pub expected_in : Turn → Back
expected_in (says c) = expects c
expected_in (brings faults) = back 0 []

-- the tool reads F380; the tool reads a word, of which the two low bytes are told; service writes F3A3:01
abbrev pub summary_is : ℕ → Turn
summary_is x = says (on 0 (0x40 ∷ 0x80 ∷ 0xF3 ∷ []) (0x4F ∷ 0x80 ∷ 0xF3 ∷ 0x00 ∷ x ∷ []))

abbrev pub word_is : ℕ → ℕ → ℕ → Turn
word_is index low high = says (on 0 (0x40 ∷ index ∷ 0xF3 ∷ 0x01 ∷ []) (0x43 ∷ index ∷ 0xF3 ∷ 0x01 ∷ low ∷ high ∷ []))

abbrev pub mask_becomes : ℕ → ℕ → Turn
mask_becomes low high = says (on 1 (0x23 ∷ 0xA3 ∷ 0xF3 ∷ 0x01 ∷ low ∷ high ∷ []) (0x60 ∷ 0xA3 ∷ 0xF3 ∷ 0x01 ∷ []))

-- the dialogue of docs/ABORT-CODES.md: masked, the summary is clear at once and the active word still has the bit; filament 1 fails too and
-- shows; unmasked, the summary is back at once
unfoldable pub masked_by_write : List Turn
masked_by_write =
    brings 0x400 ∷
    summary_is 4 ∷
    word_is 0x83 0x00 0x04 ∷
    mask_becomes 0x00 0x04 ∷
    summary_is 0 ∷
    word_is 0x83 0x00 0x04 ∷
    brings 0x401 ∷
    summary_is 4 ∷
    brings 0x400 ∷
    summary_is 0 ∷
    word_is 0x93 0x01 0x04 ∷
    mask_becomes 0x00 0x00 ∷
    summary_is 4 ∷
    []

-- the mask is stored and taken away; a load brings it back, and the summary is clear at once
unfoldable pub masked_by_load : List Turn
masked_by_load =
    mask_becomes 0x00 0x04 ∷
    says (saves 1) ∷
    mask_becomes 0x00 0x00 ∷
    brings 0x400 ∷
    summary_is 4 ∷
    says (loads 1) ∷
    summary_is 0 ∷
    word_is 0x83 0x00 0x04 ∷
    []

unfoldable pub fab : List (List Turn)
fab = masked_by_write ∷ masked_by_load ∷ []
