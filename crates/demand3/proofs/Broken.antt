-- BOARDS THAT DEMAND 3 REFUSES, whatever the promises of the single calls say: what the observer sees of them, with line 0 in eight bytes (form 0), no plain
-- gauge gives. Computed.
use Prim.Native.Nat.{ℕ}
use mathlib.Core.Path.{◌≡◌, ap}
use mathlib.Core.Bool.{false}
use mathlib.Core.List.{List, ◌++◌, map}
use lib.ListN.{get_or, replicate}
use Rattle.order.specs.Talk.{Result, gave, yes!, code, taken}
use Rattle.order.specs.Gauge.{results}
use Rattle.order.specs.Promise.{ops_of, got_of}
use Rattle.line.specs.Gauge.{plain}
use Rattle.demand3.specs.Firmware.{Exported, Back, observed, powered_store}
use Rattle.demand3.specs.Open.{all_opened, observer_opened}
use Rattle.demand3.specs.Conversation.{Case, asks, expects, label_read}
use Rattle.demand3.specs.Examples.{label_changed}

-- what a board answered, as the observer is given it, and the first line of demand 3 for it
abbrev answers_of : List Case → List (Exported × Back)
answers_of cs = map (λ (c : Case). (asks c, expects c)) cs

abbrev Plain : List Case → Type 0
Plain cs = results plain (powered_store (replicate 512 0)) (ops_of plain (observed false (answers_of cs))) ≡ got_of plain (observed false (answers_of cs))

-- the first byte of the value that the n-th operation got
first_byte : Result → ℕ
first_byte (gave bytes) = get_or bytes 0 0
first_byte yes! = 0
first_byte (code c) = 0
first_byte taken = 0

abbrev byte_of : ℕ → List Result → ℕ
byte_of n rs = first_byte (get_or rs n taken)

-- ONE THAT STORES NOTHING: in case J its next read shows anything but the 41s that were written
pub forgetful_not_plain : (x : ℕ) → (0x41 ≡ x → ⊥) → Plain (label_changed ++ label_read 0 x) → ⊥
unfolding label_changed first_byte all_opened observer_opened
forgetful_not_plain x other h = other (ap (byte_of 2) h)

-- ONE THAT SERVES THE OPENING AND FAKES THE LATER PARTS: the label is zeros, and it sends another byte
pub faker_not_plain : (x : ℕ) → (0 ≡ x → ⊥) → Plain (label_read 0 x) → ⊥
unfolding first_byte all_opened observer_opened
faker_not_plain x other h = other (ap (byte_of 0) h)
