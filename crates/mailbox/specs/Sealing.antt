-- SHAPE: the headers as the code writes them: it tells an abort by the SDO's first byte. Assumes nothing.
use Rattle.std.specs.Prelude.{ℕ, cond, List, eqb, get_or}
use Rattle.mailbox.specs.declared.Head.{Head}
use Rattle.mailbox.specs.Mail.{counter_in, mailed}

abbrev pub service_by : ℕ → ℕ
service_by first = cond (eqb first 0x80) 2 3

-- an SDO put into a mailbox
unfoldable pub sealed : Head → List ℕ → List ℕ
unfolding mailed
sealed h sdo = mailed h.address (counter_in h) (service_by (get_or sdo 0 0)) sdo
