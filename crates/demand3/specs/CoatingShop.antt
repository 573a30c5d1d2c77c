-- RULE: THE COATING SHOP'S STORY as a conversation: a load on line 1 between the parts of a card read on line 0. Assumes nothing.
use Rattle.std.specs.Prelude.{List, [], ◌∷◌, ◌++◌, ℕ, take, drop}
use Rattle.demand3.specs.Conversation.{Case, saves, loads, card_read, card_write}

-- trip point 1 low at 0.5, hysteresis 0.125; trip point 2 low at 0.25, hysteresis 0.0625
unfoldable pub old_pair : List ℕ
old_pair =
    0x14 ∷ 0x00 ∷ 0x00 ∷ 0x00 ∷ 0x00 ∷ 0x00 ∷ 0x00 ∷
    0x00 ∷ 0x00 ∷ 0xFC ∷ 0x00 ∷ 0x00 ∷ 0x00 ∷ 0xF8 ∷
    0x00 ∷ 0x00 ∷ 0x01 ∷ 0x00 ∷ 0x00 ∷ 0x00 ∷ 0x00 ∷
    0x00 ∷ 0x00 ∷ 0x00 ∷ 0x00 ∷ 0x3E ∷ 0x80 ∷ 0x00 ∷
    0x00 ∷ 0x3D ∷ 0x80 ∷ 0x00 ∷ 0x00 ∷
    []

-- trip point 1 high at 100, hysteresis 10, and low at 2, hysteresis 0.5; trip point 2 low at 1, hysteresis 0.25
unfoldable pub new_pair : List ℕ
new_pair =
    0x1D ∷ 0x0B ∷ 0x20 ∷ 0x00 ∷ 0x01 ∷ 0x04 ∷ 0x80 ∷
    0x00 ∷ 0x01 ∷ 0x00 ∷ 0x00 ∷ 0x00 ∷ 0x00 ∷ 0xFC ∷
    0x00 ∷ 0x00 ∷ 0x01 ∷ 0x00 ∷ 0x00 ∷ 0x00 ∷ 0x00 ∷
    0x00 ∷ 0x00 ∷ 0x00 ∷ 0x00 ∷ 0x3F ∷ 0x80 ∷ 0x00 ∷
    0x00 ∷ 0x3E ∷ 0x80 ∷ 0x00 ∷ 0x00 ∷
    []

-- service has the new pair in the saved block; the old pair is live
unfoldable pub saved_before : List Case
saved_before = card_write 1 new_pair ++ (saves 1 ∷ card_write 1 old_pair)

-- the tool reads the card; service loads after its first part
unfoldable pub read_across_load : List Case
read_across_load = take 2 (card_read 0 old_pair) ++ (loads 1 ∷ drop 2 (card_read 0 old_pair))

-- the read is the old pair, whole; the next one is the new pair, whole; written back, the card that was read gives the old pair again
unfoldable pub story : List Case
story = saved_before ++ (read_across_load ++ (card_read 0 new_pair ++ (card_write 0 old_pair ++ card_read 1 old_pair)))
