-- RULE: THE RELAY'S STORY as a conversation: in which order levels and enables of trip point 1 are taken (R3.7, R3.8). Assumes nothing.
use Rattle.std.specs.Prelude.{List, [], ◌∷◌, ℕ}
use Rattle.demand3.specs.Conversation.{Case, on}

-- service writes an enable, or a level by the two high bytes of its REAL, and gets a yes or 06090036
abbrev pub enable : ℕ → ℕ → List ℕ
enable sub x = 0x2F ∷ 0x0E ∷ 0x80 ∷ sub ∷ x ∷ []

abbrev pub level : ℕ → ℕ → ℕ → List ℕ
level sub a b = 0x23 ∷ 0x0E ∷ 0x80 ∷ sub ∷ 0x00 ∷ 0x00 ∷ a ∷ b ∷ []

abbrev pub taken : ℕ → List ℕ → Case
taken sub m = on 1 m (0x60 ∷ 0x0E ∷ 0x80 ∷ sub ∷ [])

abbrev pub refused : ℕ → List ℕ → Case
refused sub m = on 1 m (0x80 ∷ 0x0E ∷ 0x80 ∷ sub ∷ 0x36 ∷ 0x00 ∷ 0x09 ∷ 0x06 ∷ [])

-- the dialogue of docs/ABORT-CODES.md: with both levels 0 the second side is refused until the high level is 1; low 10 is refused, and low 1,
-- until the high level is 20; with the high side disabled any level is taken, and then the side is not enabled again
unfoldable pub relay : List Case
relay =
    taken 0x01 (enable 0x01 1) ∷
    refused 0x02 (enable 0x02 1) ∷
    taken 0x11 (level 0x11 0x80 0x3F) ∷
    taken 0x02 (enable 0x02 1) ∷
    refused 0x14 (level 0x14 0x20 0x41) ∷
    refused 0x14 (level 0x14 0x80 0x3F) ∷
    taken 0x11 (level 0x11 0xA0 0x41) ∷
    taken 0x14 (level 0x14 0x20 0x41) ∷
    taken 0x01 (enable 0x01 0) ∷
    taken 0x11 (level 0x11 0x80 0x3F) ∷
    refused 0x01 (enable 0x01 1) ∷
    []
