-- SHAPE: what the functions of reads by mailbox are held to: replies as crate order has them, spelled as SDOs of 8 to 120 bytes. Assumes nothing.
use Rattle.std.specs.Prelude.{ℕ, ◌≤◌, List, length}
use Rattle.order.specs.Serve.{Reply}
use Rattle.sdo.specs.Long.{long_answer}
use Rattle.transfer.specs.declared.Transfer.{Transfer}
use Rattle.line.specs.Gauge.{plain}
use Rattle.line.specs.Serving.{Laid, replied_as}

-- a reply, its record laid over b, and how many bytes it has
abbrev pub long_replied : ℕ → List ℕ → List ℕ → Transfer → Reply plain → Laid
long_replied at state room b r = replied_as long_answer at state room b r

abbrev pub reply_length : Reply plain → ℕ
reply_length r = length (long_answer r.answer)

-- the length of an SDO (R18.2)
pub record SdoLong (n : ℕ) : Type 0 where
  pub least : 8 ≤ n
  pub most : n ≤ 120
