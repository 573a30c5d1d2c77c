-- SHAPE: what the functions that serve a mailbox are held to: its SDO served, the answer in a mailbox. Assumes nothing.
use Rattle.std.specs.Prelude.{ℕ, ◌-◌, cond, List, leb}
use Rattle.order.specs.Serve.{Speech}
use Rattle.order.specs.Keep.{speak}
use Rattle.sdo.specs.declared.Key.{Key}
use Rattle.sdo.specs.Long.{ask_long, long_form, tell_long}
use Rattle.mailbox.specs.declared.Head.{Head}
use Rattle.mailbox.specs.Mail.{sdo_in, mail_answer}
use Rattle.transfer.specs.Records.{transfers}
use Rattle.state.specs.State.{record_at}
use Rattle.line.specs.Gauge.{plain, store_of}
use Rattle.line.specs.Serving.{Told, told_by}

-- how many bytes a part brings, of a message of some length
abbrev pub count_by : ℕ → ℕ → ℕ
count_by used len = cond (leb len 8) used (len - 1)

-- the same SDOs, the answer in a mailbox that goes back to where the request came from
abbrev pub enclosed : Head → Speech Key Key
enclosed h = record { form = long_form; ask = ask_long; answer = λ s t. mail_answer h t; tell = λ s a. tell_long (sdo_in a) }

abbrev pub mail_told : ℕ → Head → List ℕ → List ℕ → List ℕ → List ℕ → List ℕ → Told
mail_told at h s values block state answer = told_by at state answer (speak plain transfers (enclosed h) (store_of values block state) (record_at state at) s)
