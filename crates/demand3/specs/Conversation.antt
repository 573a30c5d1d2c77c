-- RULE: CONVERSATIONS over the exported calls, from power-up with form 0 on a zero block: what is sent on which line, and the answer. Assumes nothing.
use Rattle.std.specs.Prelude.{ℕ, ◌-◌, List, [], ◌∷◌, ◌++◌, map, length, take, drop, replicate}
use Rattle.state.specs.State.{state_size}
use Rattle.demand3.specs.Firmware.{Arrays, Exported, to_message, Back, back, history, final, power_on}

-- eight bytes, with zeros for those that are not written out
abbrev pub padded : List ℕ → List ℕ
padded bytes = bytes ++ replicate (8 - length bytes) 0

-- a message on a line, and its answer
pub record Case : Type 0 where
  pub line : ℕ
  pub message : List ℕ
  pub answer : List ℕ

abbrev pub on : ℕ → List ℕ → List ℕ → Case
on line m a = record { line = line; message = m; answer = a }

-- the call, with just the room that an answer needs, and what it must give back
abbrev pub asks : Case → Exported
asks c = to_message c.line (padded c.message) (replicate 8 0xEE)

abbrev pub expects : Case → Back
expects c = back 0 (padded c.answer)

-- after power-up on values and state that held FF bytes (R9.3), with a form of line 0; and in eight bytes
abbrev pub arrays_with : ℕ → Arrays
arrays_with form = power_on form (replicate 1024 0xFF) (replicate 512 0) (replicate state_size 0xFF)

abbrev pub fresh_arrays : Arrays
fresh_arrays = arrays_with 0

-- what the board gives back, and what it must give back
abbrev pub given_to : Arrays → List Exported → List Back
given_to a cs = map (λ (p : Exported × Back). p.1) (history a cs)

abbrev pub gives_from : Arrays → List Case → List Back
gives_from a cs = given_to a (map asks cs)

abbrev pub gives : List Case → List Back
gives cs = gives_from fresh_arrays cs

abbrev pub expected : List Case → List Back
expected cs = map expects cs

-- the arrays behind a conversation
abbrev pub arrays_left : List Case → Arrays
arrays_left cs = final fresh_arrays (map asks cs)

-- ---- store and load

abbrev pub saves : ℕ → Case
saves line = on line (0x23 ∷ 0xF2 ∷ 0xFB ∷ 0x01 ∷ 0x73 ∷ 0x61 ∷ 0x76 ∷ 0x65 ∷ []) (0x60 ∷ 0xF2 ∷ 0xFB ∷ 0x01 ∷ [])

abbrev pub loads : ℕ → Case
loads line = on line (0x23 ∷ 0xF4 ∷ 0xFB ∷ 0x01 ∷ 0x6C ∷ 0x6F ∷ 0x61 ∷ 0x64 ∷ []) (0x60 ∷ 0xF4 ∷ 0xFB ∷ 0x01 ∷ [])

-- ---- the card, read and written whole in five parts

abbrev pub card_read : ℕ → List ℕ → List Case
card_read line card =
    on line (0x40 ∷ 0x10 ∷ 0x20 ∷ []) (0x41 ∷ 0x10 ∷ 0x20 ∷ 0x00 ∷ 0x21 ∷ []) ∷
    on line (0x60 ∷ []) (0x00 ∷ take 7 card) ∷
    on line (0x70 ∷ []) (0x10 ∷ take 7 (drop 7 card)) ∷
    on line (0x60 ∷ []) (0x00 ∷ take 7 (drop 14 card)) ∷
    on line (0x70 ∷ []) (0x10 ∷ take 7 (drop 21 card)) ∷
    on line (0x60 ∷ []) (0x05 ∷ drop 28 card) ∷
    []

abbrev pub card_write : ℕ → List ℕ → List Case
card_write line card =
    on line (0x21 ∷ 0x10 ∷ 0x20 ∷ 0x00 ∷ 0x21 ∷ []) (0x60 ∷ 0x10 ∷ 0x20 ∷ []) ∷
    on line (0x00 ∷ take 7 card) (0x20 ∷ []) ∷
    on line (0x10 ∷ take 7 (drop 7 card)) (0x30 ∷ []) ∷
    on line (0x00 ∷ take 7 (drop 14 card)) (0x20 ∷ []) ∷
    on line (0x10 ∷ take 7 (drop 21 card)) (0x30 ∷ []) ∷
    on line (0x05 ∷ drop 28 card) (0x20 ∷ []) ∷
    []

-- ---- the label, all its bytes alike, read and written whole in five parts

abbrev pub label_read : ℕ → ℕ → List Case
label_read line x =
    on line (0x40 ∷ 0x01 ∷ 0x20 ∷ []) (0x41 ∷ 0x01 ∷ 0x20 ∷ 0x00 ∷ 0x20 ∷ []) ∷
    on line (0x60 ∷ []) (0x00 ∷ replicate 7 x) ∷
    on line (0x70 ∷ []) (0x10 ∷ replicate 7 x) ∷
    on line (0x60 ∷ []) (0x00 ∷ replicate 7 x) ∷
    on line (0x70 ∷ []) (0x10 ∷ replicate 7 x) ∷
    on line (0x60 ∷ []) (0x07 ∷ replicate 4 x) ∷
    []

abbrev pub label_write : ℕ → ℕ → List Case
label_write line x =
    on line (0x21 ∷ 0x01 ∷ 0x20 ∷ 0x00 ∷ 0x20 ∷ []) (0x60 ∷ 0x01 ∷ 0x20 ∷ []) ∷
    on line (0x00 ∷ replicate 7 x) (0x20 ∷ []) ∷
    on line (0x10 ∷ replicate 7 x) (0x30 ∷ []) ∷
    on line (0x00 ∷ replicate 7 x) (0x20 ∷ []) ∷
    on line (0x10 ∷ replicate 7 x) (0x30 ∷ []) ∷
    on line (0x07 ∷ replicate 4 x) (0x20 ∷ []) ∷
    []
