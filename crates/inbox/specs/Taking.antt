-- SHAPE: what the functions of writes by mailbox are held to: requests as crate order serves them, sent in SDOs of 8 to 120 bytes. Assumes nothing.
use Rattle.std.specs.Prelude.{ℕ, List, length, Option, Some, None}
use Rattle.std.proofs.Math.Option.{none}
use Rattle.order.specs.Talk.{Request, open_write}
use Rattle.order.specs.Serve.{serve}
use Rattle.order.specs.Keep.{Spoken, speak}
use Rattle.sdo.specs.declared.Key.{Key}
use Rattle.sdo.specs.Long.{opening_with, long_form, long_sdo}
use Rattle.transfer.specs.Records.{view, base, transfers}
use Rattle.state.specs.State.{record_at}
use Rattle.line.specs.Gauge.{plain, store_of}
use Rattle.line.specs.Serving.{Told, told_by, spoken_over}

-- a message s of the line whose record stands at a place
abbrev pub long_spoken : ℕ → List ℕ → List ℕ → List ℕ → List ℕ → Spoken plain transfers
long_spoken at s values block state = speak plain transfers long_sdo (store_of values block state) (record_at state at) s

abbrev pub long_told : ℕ → List ℕ → List ℕ → List ℕ → List ℕ → List ℕ → Told
long_told at s values block state room = told_by at state room (long_spoken at s values block state)

abbrev pub spoken_length : ℕ → List ℕ → List ℕ → List ℕ → List ℕ → ℕ
spoken_length at s values block state = length (long_spoken at s values block state).bytes

-- a request of a write, which is answered in eight bytes
abbrev pub asked_told : ℕ → Request Key → List ℕ → List ℕ → List ℕ → List ℕ → Told
asked_told at q values block state room =
    told_by at state room (spoken_over (base (record_at state at) q) (serve plain long_form (store_of values block state) (view (record_at state at)) q))

-- an opening with bytes behind it, its length announced or not
unfoldable pub opening_asked : Key → Option ℕ → List ℕ → Request Key
unfolding opening_with
opening_asked k (Some n) bytes = opening_with k n bytes
opening_asked k None bytes = open_write k none bytes
