-- RULE: THE MAILBOX (R18): six bytes of mailbox header, two of CoE header, then the SDO, in 128 bytes. The structs are the code's own. Assumes nothing.
use Rattle.std.specs.Prelude.{ℕ, ◌+◌, ◌-◌, ◌*◌, ◌/◌, ◌%◌, Bool, cond, ◌&&◌, List, [], ◌∷◌, ◌++◌, eqb, leb, length, take, drop, replicate, Result, Ok, Err}
use Rattle.wire.specs.Little.{little, number}
use Rattle.order.specs.Talk.{Answer}
use Rattle.order.specs.Serve.{Speech}
use Rattle.order.specs.Promise.{is_abort}
use Rattle.sdo.specs.declared.Key.{Key}
use Rattle.sdo.specs.Long.{long_form, ask_long, long_answer, tell_long}
use Rattle.mailbox.specs.declared.Head.{Head}
use Rattle.mailbox.specs.declared.Unfit.{Unfit}
use Rattle.mailbox.specs.declared.Unfit.TheVariants.{Misshapen, NotSdo}

abbrev pub mailbox_size : ℕ
mailbox_size = 128

-- what is read of the two headers: length field; address; type and counter; number and service. Channel and priority are passed over (R18.1)
abbrev pub head_of : List ℕ → Head
head_of m = record { len = number m 0 2; address = number m 2 2; kind = number m 5 1; service = number m 6 2 }

abbrev pub counter_in : Head → ℕ
counter_in h = h.kind / 16 % 8

-- R18.2
unfoldable pub well_shaped : List ℕ → Bool
well_shaped m = eqb (length m) mailbox_size && (leb 10 (number m 0 2) && leb (number m 0 2) 122)

-- type 3 is CoE, service 2 an SDO request (R18.3)
unfoldable pub asks_sdo : Head → Bool
asks_sdo h = eqb (h.kind % 16) 3 && eqb (h.service / 4096) 2

-- what a mailbox is; the numbers that a call gives back for the first two are 6 and 7 (R13.9, R13.10)
unfoldable pub mail_of : List ℕ → Result Head Unfit
unfolding well_shaped asks_sdo
mail_of m = cond (well_shaped m) (cond (asks_sdo (head_of m)) (Ok (head_of m)) (Err NotSdo)) (Err Misshapen)

-- the SDO: as many bytes as the length field counts, less the CoE header. What stands behind is not looked at (R18.2)
abbrev pub sdo_in : List ℕ → List ℕ
sdo_in m = take (number m 0 2 - 2) (drop 8 m)

-- ---- answers

-- an answer is an SDO response; an abort goes out as an SDO request, whoever sends it (R18.8)
unfoldable pub service_of : Answer Key → ℕ
unfolding is_abort
service_of t = cond (is_abort t) 2 3

-- 128 bytes: length, address, no channel or priority, CoE and counter; the service; the SDO, zeros to the end (R18.8). No SDO, no answer
unfoldable pub mailed : ℕ → ℕ → ℕ → List ℕ → List ℕ
unfolding little
mailed address counter service [] = []
mailed address counter service (b ∷ sdo) =
    little 2 (2 + length (b ∷ sdo)) ++ (little 2 address ++ (0 ∷ (3 + 16 * counter) ∷ (little 2 (4096 * service) ++ ((b ∷ sdo) ++ replicate (120 - length (b ∷ sdo)) 0))))

-- with the request's address and counter
unfoldable pub mail_answer : Head → Answer Key → List ℕ
unfolding mailed service_of long_answer
mail_answer h t = mailed h.address (counter_in h) (service_of t) (long_answer t)

-- a line that speaks in mailboxes: no counter is remembered, and complete access is not looked at (R18.9)
abbrev pub mailboxes : Speech Key Key
mailboxes = record { form = long_form; ask = λ m. ask_long (sdo_in m); answer = λ m t. mail_answer (head_of m) t; tell = λ m a. tell_long (sdo_in a) }
