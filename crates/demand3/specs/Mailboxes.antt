-- RULE: CONVERSATIONS WITH THE TOOL'S LINE IN MAILBOXES (R18), from power-up with form 1 on a zero block: each call, and what it gives back. Assumes nothing.
use Rattle.std.specs.Prelude.{ℕ, ◌+◌, ◌-◌, ◌*◌, ◌/◌, ◌%◌, List, [], ◌∷◌, ◌++◌, map, length, take, replicate}
use Rattle.demand3.specs.Firmware.{Arrays, Exported, to_message, to_mailbox, Back, back}
use Rattle.demand3.specs.Conversation.{Case, padded, asks, expects, arrays_with, given_to, loads, card_read}
use Rattle.demand3.specs.CoatingShop.{old_pair, new_pair, saved_before}

abbrev pub boxed_arrays : Arrays
boxed_arrays = arrays_with 1

-- a call, and what it must give back
abbrev pub Exchange : Type 0
Exchange = Exported × Back

abbrev pub given_in : List Exchange → List Back
given_in es = given_to boxed_arrays (map (λ (e : Exchange). e.0) es)

abbrev pub expected_of : List Exchange → List Back
expected_of es = map (λ (e : Exchange). e.1) es

-- 128 bytes, with zeros for those that are not written out
abbrev pub boxful : List ℕ → List ℕ
boxful bytes = bytes ++ replicate (128 - length bytes) 0

-- an SDO request of at least eight bytes in a mailbox, with an address and a counter
abbrev pub boxed_with : ℕ → ℕ → List ℕ → List ℕ
boxed_with address counter sdo = boxful ((2 + length (padded sdo)) ∷ 0x00 ∷ address % 256 ∷ address / 256 ∷ 0x00 ∷ (3 + 16 * counter) ∷ 0x00 ∷ 0x20 ∷ padded sdo)

-- a mailbox that is answered with these bytes and zeros; a request so answered
abbrev pub answered : List ℕ → List ℕ → Exchange
answered m answer = (to_mailbox m (replicate 128 0xEE), back 0 (boxful answer))

abbrev pub mails : ℕ → ℕ → List ℕ → List ℕ → Exchange
mails address counter sdo answer = answered (boxed_with address counter sdo) answer

-- a mailbox that gets a number and no answer: the room is as it was
abbrev pub unanswered : ℕ → List ℕ → Exchange
unanswered number m = (to_mailbox m (replicate 128 0xEE), back number (replicate 128 0xEE))

-- a message in eight bytes
abbrev pub in_eight : Case → Exchange
in_eight c = (asks c, expects c)

-- ---- examples

-- the card at power-up, 10 and 32 zeros, in one mailbox
unfoldable pub card_in_one : List Exchange
card_in_one =
    mails 0x1001 1 (0x40 ∷ 0x10 ∷ 0x20 ∷ 0x00 ∷ [])
    (0x2B ∷ 0x00 ∷ 0x01 ∷ 0x10 ∷ 0x00 ∷ 0x13 ∷ 0x00 ∷ 0x30 ∷ 0x41 ∷ 0x10 ∷ 0x20 ∷ 0x00 ∷ 0x21 ∷ 0x00 ∷ 0x00 ∷ 0x00 ∷ 0x10 ∷ []) ∷
    []

-- the label written in one mailbox, and read back in one
unfoldable pub label_in_one : List Exchange
label_in_one =
    mails 0x1001 1 (0x21 ∷ 0x01 ∷ 0x20 ∷ 0x00 ∷ 0x20 ∷ 0x00 ∷ 0x00 ∷ 0x00 ∷ replicate 32 0x41) (0x0A ∷ 0x00 ∷ 0x01 ∷ 0x10 ∷ 0x00 ∷ 0x13 ∷ 0x00 ∷ 0x30 ∷ 0x60 ∷ 0x01 ∷ 0x20 ∷ 0x00 ∷ []) ∷
    mails 0x1001 2 (0x40 ∷ 0x01 ∷ 0x20 ∷ 0x00 ∷ [])
    (0x2A ∷ 0x00 ∷ 0x01 ∷ 0x10 ∷ 0x00 ∷ 0x23 ∷ 0x00 ∷ 0x30 ∷ 0x41 ∷ 0x01 ∷ 0x20 ∷ 0x00 ∷ 0x20 ∷ 0x00 ∷ 0x00 ∷ 0x00 ∷ replicate 32 0x41) ∷
    []

-- the label written by an opening that brings 12 of its bytes, and a part that brings the other 20
unfoldable pub label_in_two : List Exchange
label_in_two =
    mails 0x1001 1 (0x21 ∷ 0x01 ∷ 0x20 ∷ 0x00 ∷ 0x20 ∷ 0x00 ∷ 0x00 ∷ 0x00 ∷ replicate 12 0x41) (0x0A ∷ 0x00 ∷ 0x01 ∷ 0x10 ∷ 0x00 ∷ 0x13 ∷ 0x00 ∷ 0x30 ∷ 0x60 ∷ 0x01 ∷ 0x20 ∷ 0x00 ∷ []) ∷
    mails 0x1001 2 (0x01 ∷ replicate 20 0x42) (0x0A ∷ 0x00 ∷ 0x01 ∷ 0x10 ∷ 0x00 ∷ 0x23 ∷ 0x00 ∷ 0x30 ∷ 0x20 ∷ []) ∷
    mails 0x1001 3 (0x40 ∷ 0x01 ∷ 0x20 ∷ 0x00 ∷ [])
    (0x2A ∷ 0x00 ∷ 0x01 ∷ 0x10 ∷ 0x00 ∷ 0x33 ∷ 0x00 ∷ 0x30 ∷ 0x41 ∷ 0x01 ∷ 0x20 ∷ 0x00 ∷ 0x20 ∷ 0x00 ∷ 0x00 ∷ 0x00 ∷ (replicate 12 0x41 ++ replicate 20 0x42)) ∷
    []

-- the lock with channel, priority, number and every reserved bit set, with bytes behind the SDO, and again in a room of 130 bytes: none of that is looked at, and the two bytes stay
unfoldable pub lock_in_one : List Exchange
lock_in_one =
    answered (0x0A ∷ 0x00 ∷ 0x01 ∷ 0x10 ∷ 0xFF ∷ 0x93 ∷ 0xFF ∷ 0x2F ∷ 0x40 ∷ 0x03 ∷ 0x20 ∷ 0x00 ∷ replicate 116 0xFF)
    (0x0A ∷ 0x00 ∷ 0x01 ∷ 0x10 ∷ 0x00 ∷ 0x13 ∷ 0x00 ∷ 0x30 ∷ 0x4F ∷ 0x03 ∷ 0x20 ∷ 0x00 ∷ []) ∷ (
      to_mailbox (boxed_with 0x1001 1 (0x40 ∷ 0x03 ∷ 0x20 ∷ 0x00 ∷ [])) (replicate 130 0xEE),
      back 0 (boxful (0x0A ∷ 0x00 ∷ 0x01 ∷ 0x10 ∷ 0x00 ∷ 0x13 ∷ 0x00 ∷ 0x30 ∷ 0x4F ∷ 0x03 ∷ 0x20 ∷ 0x00 ∷ []) ++ replicate 2 0xEE),
    ) ∷
    []

-- an index that is absent: the abort goes out with service 2
unfoldable pub absent_in_one : List Exchange
absent_in_one =
    mails 0xABCD 7 (0x40 ∷ 0x04 ∷ 0x20 ∷ 0x00 ∷ [])
    (0x0A ∷ 0x00 ∷ 0xCD ∷ 0xAB ∷ 0x00 ∷ 0x73 ∷ 0x00 ∷ 0x20 ∷ 0x80 ∷ 0x04 ∷ 0x20 ∷ 0x00 ∷ 0x00 ∷ 0x00 ∷ 0x02 ∷ 0x06 ∷ []) ∷
    []

-- the client's abort gets 5; a length field of 9 and of 123, and a mailbox of 127 bytes, 6; type 2 and service 3, 7; a room of 127 bytes, 2; eight bytes on line 0, 3
unfoldable pub without_answer : List Exchange
without_answer =
    unanswered 5 (boxed_with 0x1001 1 (0x80 ∷ 0x10 ∷ 0x20 ∷ 0x00 ∷ [])) ∷
    unanswered 6 (boxful (0x09 ∷ 0x00 ∷ 0x01 ∷ 0x10 ∷ 0x00 ∷ 0x13 ∷ 0x00 ∷ 0x20 ∷ 0x40 ∷ 0x10 ∷ 0x20 ∷ 0x00 ∷ [])) ∷
    unanswered 6 (boxful (0x7B ∷ 0x00 ∷ 0x01 ∷ 0x10 ∷ 0x00 ∷ 0x13 ∷ 0x00 ∷ 0x20 ∷ 0x40 ∷ 0x10 ∷ 0x20 ∷ 0x00 ∷ [])) ∷
    unanswered 6 (take 127 (boxed_with 0x1001 1 (0x40 ∷ 0x10 ∷ 0x20 ∷ 0x00 ∷ []))) ∷
    unanswered 7 (boxful (0x0A ∷ 0x00 ∷ 0x01 ∷ 0x10 ∷ 0x00 ∷ 0x12 ∷ 0x00 ∷ 0x20 ∷ 0x40 ∷ 0x10 ∷ 0x20 ∷ 0x00 ∷ [])) ∷
    unanswered 7 (boxful (0x0A ∷ 0x00 ∷ 0x01 ∷ 0x10 ∷ 0x00 ∷ 0x13 ∷ 0x00 ∷ 0x30 ∷ 0x40 ∷ 0x10 ∷ 0x20 ∷ 0x00 ∷ [])) ∷
    (to_mailbox (boxed_with 0x1001 1 (0x40 ∷ 0x10 ∷ 0x20 ∷ 0x00 ∷ [])) (replicate 127 0xEE), back 2 (replicate 127 0xEE)) ∷
    (to_message 0 (padded (0x40 ∷ 0x03 ∷ 0x20 ∷ 0x00 ∷ [])) (replicate 8 0xEE), back 3 (replicate 8 0xEE)) ∷
    []

-- a device reset by a command word of six bytes in one mailbox: line 0 still speaks in mailboxes, and reads the lock
unfoldable pub form_kept : List Exchange
form_kept =
    mails 0x1001 1 (0x21 ∷ 0xF0 ∷ 0xFB ∷ 0x01 ∷ 0x06 ∷ 0x00 ∷ 0x00 ∷ 0x00 ∷ 0x74 ∷ 0x65 ∷ 0x73 ∷ 0x65 ∷ 0x72 ∷ 0x00 ∷ [])
    (0x0A ∷ 0x00 ∷ 0x01 ∷ 0x10 ∷ 0x00 ∷ 0x13 ∷ 0x00 ∷ 0x30 ∷ 0x60 ∷ 0xF0 ∷ 0xFB ∷ 0x01 ∷ []) ∷
    mails 0x1001 2 (0x40 ∷ 0x03 ∷ 0x20 ∷ 0x00 ∷ []) (0x0A ∷ 0x00 ∷ 0x01 ∷ 0x10 ∷ 0x00 ∷ 0x23 ∷ 0x00 ∷ 0x30 ∷ 0x4F ∷ 0x03 ∷ 0x20 ∷ 0x00 ∷ []) ∷
    []

-- ---- the coating shop's story, with the tool on the mailbox

abbrev pub reads_card : ℕ → List ℕ → Exchange
reads_card counter card =
    mails 0x1001 counter (0x40 ∷ 0x10 ∷ 0x20 ∷ 0x00 ∷ [])
    (0x2B ∷ 0x00 ∷ 0x01 ∷ 0x10 ∷ 0x00 ∷ (3 + 16 * counter) ∷ 0x00 ∷ 0x30 ∷ 0x41 ∷ 0x10 ∷ 0x20 ∷ 0x00 ∷ 0x21 ∷ 0x00 ∷ 0x00 ∷ 0x00 ∷ card)

abbrev pub writes_card : ℕ → List ℕ → Exchange
writes_card counter card =
    mails 0x1001 counter (0x21 ∷ 0x10 ∷ 0x20 ∷ 0x00 ∷ 0x21 ∷ 0x00 ∷ 0x00 ∷ 0x00 ∷ card)
    (0x0A ∷ 0x00 ∷ 0x01 ∷ 0x10 ∷ 0x00 ∷ (3 + 16 * counter) ∷ 0x00 ∷ 0x30 ∷ 0x60 ∷ 0x10 ∷ 0x20 ∷ 0x00 ∷ [])

-- the tool reads the old pair, service loads, the tool reads the new pair and writes back the card that it read first
unfoldable pub boxed_story : List Exchange
boxed_story =
    map in_eight saved_before ++
    (reads_card 1 old_pair ∷ in_eight (loads 1) ∷ reads_card 2 new_pair ∷ writes_card 3 old_pair ∷ map in_eight (card_read 1 old_pair))

unfoldable pub boxed_cases : List (List Exchange)
boxed_cases = card_in_one ∷ label_in_one ∷ label_in_two ∷ lock_in_one ∷ absent_in_one ∷ without_answer ∷ form_kept ∷ boxed_story ∷ []
