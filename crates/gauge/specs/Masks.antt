-- RULE: masks that come in, by a write or a load, act on the summary at once (R11.4). Assumes nothing.
use Rattle.std.specs.Prelude.{◌≡◌, Bool, cond, List, ℕ}
use Rattle.wire.specs.Little.{number}
use Rattle.table.specs.Places.{summary_byte}
use Rattle.sample.specs.Faults.{summary_in, with_summary}

-- the summary, worked out anew if masks came in
unfoldable pub heeding : Bool → List ℕ → List ℕ
heeding came values = cond came (with_summary values) values

-- the summary is the one that active word and mask give (R11.3)
abbrev pub Summed : List ℕ → Type 0
Summed values = number values summary_byte 1 ≡ summary_in values
