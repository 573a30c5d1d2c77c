-- WHAT THE OBSERVER SEES in example J and in the coating shop's story: the finished operations with what they got, in their order. Computed.
use mathlib.Core.Path.{◌≡◌, refl}
use mathlib.Core.Bool.{false}
use mathlib.Core.List.{List, [], ◌∷◌, map}
use mathlib.Core.Option.{some}
use Prim.Native.Nat.{ℕ}
use lib.ListN.{length, replicate}
use Rattle.order.specs.Talk.{announced, gave, yes! }
use Rattle.order.specs.Gauge.{read, write}
use Rattle.order.specs.Observe.{Done}
use Rattle.sdo.specs.declared.Key.{Key}
use Rattle.order.specs.Keep.{record_call}
use Rattle.mailbox.specs.Lines.{tool}
use Rattle.line.specs.Gauge.{plain}
use Rattle.demand3.specs.Firmware.{Exported, to_message, Back, back, exported, history, observed, ReadOpened, read_seen}
use Rattle.demand3.specs.Open.{all_opened, observer_opened}
use Rattle.demand3.specs.Conversation.{Case, on, asks, fresh_arrays}
use Rattle.demand3.specs.Examples.{label_changed, case_j}
use Rattle.demand3.specs.CoatingShop.{old_pair, new_pair, saved_before, read_across_load, story}

abbrev seen_in : List Case → List (Done plain)
seen_in cs = observed false (history fresh_arrays (map asks cs))

abbrev entry : ℕ → ℕ → Key
entry index sub = record { index = index; sub = sub }

abbrev label : Key
label = entry 0x2001 0

abbrev pub card : Key
card = entry 0x2010 0

abbrev did : Key → List ℕ → Done plain
did k bytes = (write k (announced (length bytes)) bytes, yes!)

abbrev pub got : Key → List ℕ → Done plain
got k bytes = (read k, gave bytes)

-- the read that was opened first stands first, with the old label; then the write; then the read of the new one
pub j_seen : seen_in case_j ≡ got label (replicate 32 0) ∷ did label (replicate 32 0x41) ∷ got label (replicate 32 0x41) ∷ []
unfolding label_changed case_j all_opened observer_opened
j_seen = refl

-- the torn read of the card would be no value of any gauge: what is seen is the old pair before the load, the new pair after it
abbrev pub story-done : List (Done plain)
story-done =
    did card new_pair ∷
    did (entry 0xFBF2 1) (0x73 ∷ 0x61 ∷ 0x76 ∷ 0x65 ∷ []) ∷
    did card old_pair ∷
    got card old_pair ∷
    did (entry 0xFBF4 1) (0x6C ∷ 0x6F ∷ 0x61 ∷ 0x64 ∷ []) ∷
    got card new_pair ∷
    did card old_pair ∷
    got card old_pair ∷
    []

pub story-seen : seen_in story ≡ story-done
unfolding story saved_before read_across_load old_pair new_pair all_opened observer_opened
story-seen = refl

-- line 2, a room of seven bytes, a message of seven, the client's abort: 3, 2, 1 and 5, the rooms as they were, and no operation
pub unseen : List Exported
unseen =
    to_message 2 (replicate 8 0) (replicate 8 0xEE) ∷
    to_message 0 (replicate 8 0) (replicate 7 0xEE) ∷
    to_message 0 (replicate 7 0) (replicate 8 0xEE) ∷
    to_message 1 (0x80 ∷ replicate 7 0) (replicate 8 0xEE) ∷
    []

pub unseen_numbers :
    map (λ (p : Exported × Back). p.1) (history fresh_arrays unseen)
    ≡ back 3 (replicate 8 0xEE) ∷ back 2 (replicate 7 0xEE) ∷ back 1 (replicate 8 0xEE) ∷ back 5 (replicate 8 0xEE) ∷ []
unfolding unseen all_opened
unseen_numbers = refl

pub nothing_seen : observed false (history fresh_arrays unseen) ≡ []
unfolding unseen all_opened observer_opened
nothing_seen = refl

-- THE COUNT OF PARTS AT WORK: a label of 32 bytes is opened on line 0; line 1 sets the lock between the parts; five parts end it
unfoldable pub label_parts : List Case
label_parts =
    on 0 (0x60 ∷ []) (0x00 ∷ []) ∷
    on 1 (0x2F ∷ 0x03 ∷ 0x20 ∷ 0x00 ∷ 0x01 ∷ []) (0x60 ∷ 0x03 ∷ 0x20 ∷ []) ∷
    on 0 (0x70 ∷ []) (0x10 ∷ []) ∷
    on 0 (0x60 ∷ []) (0x00 ∷ []) ∷
    on 0 (0x70 ∷ []) (0x10 ∷ []) ∷
    on 0 (0x60 ∷ []) (0x07 ∷ []) ∷
    []

abbrev open_label : List ℕ
open_label = 0x40 ∷ 0x01 ∷ 0x20 ∷ 0x00 ∷ 0x00 ∷ 0x00 ∷ 0x00 ∷ 0x00 ∷ []

abbrev label_opening : Exported
label_opening = to_message 0 open_label (replicate 8 0)

-- what the opening tells: 32 bytes
abbrev label_told : List ℕ
label_told = 0x41 ∷ 0x01 ∷ 0x20 ∷ 0x00 ∷ 0x20 ∷ 0x00 ∷ 0x00 ∷ 0x00 ∷ []

pub label_opened : ReadOpened false fresh_arrays label_opening tool open_label label_told (replicate 32 0) (map asks label_parts)
unfolding label_parts all_opened observer_opened record_call
label_opened =
    record {
      heard_so = refl;
      key = label;
      opens = refl;
      holds = refl;
      right = (refl, (refl, (refl, (refl, (refl, tt)))));
      calm = (refl, (refl, (refl, (refl, (refl, (refl, tt))))));
    }

-- exactly five parts: the value is had, and it is the label as it was at the opening
pub label_finished : read_seen false tool label open_label label_told (history (exported fresh_arrays label_opening).0 (map asks label_parts)) ≡ some (got label (replicate 32 0))
unfolding label_parts all_opened observer_opened
label_finished = refl
