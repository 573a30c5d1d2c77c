-- The conversations with the tool's line in mailboxes over the exported calls, and what the observer sees in the story. Computed.
use Prim.Native.Nat.{ℕ}
use mathlib.Core.Path.{◌≡◌, refl}
use mathlib.Core.Bool.{true}
use mathlib.Core.List.{List, [], ◌∷◌, map}
use mathlib.Core.Option.{some}
use lib.ListN.{replicate}
use Rattle.mailbox.specs.Lines.{tool}
use Rattle.demand3.specs.Firmware.{to_mailbox, history, observed, ReadOpened, read_seen}
use Rattle.demand3.specs.Open.{all_opened, observer_opened}
use Rattle.demand3.specs.Conversation.{fresh_arrays, given_to}
use Rattle.demand3.specs.CoatingShop.{old_pair, new_pair, saved_before}
use Rattle.demand3.specs.Mailboxes.{boxed_arrays, Exchange, given_in, expected_of, boxful, boxed_with, unanswered, card_in_one, label_in_one, label_in_two, lock_in_one, absent_in_one, without_answer, form_kept, boxed_story, boxed_cases}
use Rattle.demand3.proofs.Observed.{card, got, story-done}

-- THEOREM: each call gives back just this
pub mailboxes-answered : map given_in boxed_cases ≡ map expected_of boxed_cases
unfolding boxed_cases card_in_one label_in_one label_in_two lock_in_one absent_in_one without_answer form_kept boxed_story saved_before old_pair new_pair all_opened
mailboxes-answered = refl

abbrev card_request : List ℕ
card_request = boxed_with 0x1001 1 (0x40 ∷ 0x10 ∷ 0x20 ∷ 0x00 ∷ [])

-- where line 0 speaks in eight bytes a mailbox gets 3
pub box_not_chosen : given_to fresh_arrays ((unanswered 3 card_request).0 ∷ []) ≡ expected_of (unanswered 3 card_request ∷ [])
unfolding all_opened
box_not_chosen = refl

-- the observer sees the same operations as with the tool in eight bytes
pub boxed_story-seen : observed true (history boxed_arrays (map (λ (e : Exchange). e.0) boxed_story)) ≡ story-done
unfolding boxed_story saved_before old_pair new_pair all_opened observer_opened
boxed_story-seen = refl

-- THE COUNT OF PARTS AT WORK: the card's 33 bytes come with the answer that opens the read, and no part is asked for
abbrev first_card : List ℕ
first_card = 0x10 ∷ replicate 32 0

abbrev card_answer : List ℕ
card_answer = boxful (0x2B ∷ 0x00 ∷ 0x01 ∷ 0x10 ∷ 0x00 ∷ 0x13 ∷ 0x00 ∷ 0x30 ∷ 0x41 ∷ 0x10 ∷ 0x20 ∷ 0x00 ∷ 0x21 ∷ 0x00 ∷ 0x00 ∷ 0x00 ∷ first_card)

pub card_opened : ReadOpened true boxed_arrays (to_mailbox card_request (replicate 128 0xEE)) tool card_request card_answer first_card []
unfolding all_opened observer_opened
card_opened = record { heard_so = refl; key = card; opens = refl; holds = refl; right = tt; calm = tt }

pub card_finished : read_seen true tool card card_request card_answer [] ≡ some (got card first_card)
unfolding all_opened observer_opened
card_finished = refl
