-- Two lines: what their answers tell, and how long they are.
use Prim.Native.Nat.{ℕ}
use mathlib.Core.Path.{◌≡◌}
use mathlib.Core.Logic.{◌⊎◌}
use mathlib.Core.Bool.{Bool, true, false}
use mathlib.Core.List.{List, []}
use lib.ListN.{length}
use Rattle.order.specs.Talk.{Request, Pending}
use Rattle.order.specs.Serve.{serve}
use Rattle.order.specs.Bytes.{Clear}
use Rattle.sdo.specs.declared.Key.{Key}
use Rattle.sdo.specs.Eight.{eight, Carried}
use Rattle.sdo.specs.Long.{long_form, CarriedLong}
use Rattle.sdo.specs.Entries.{Entries, gauge, Sound}
use Rattle.sdo.proofs.RoundTrip.{round}
use Rattle.sdo.proofs.Carries.{answers, held-eight, held_long, spoken-eight}
use Rattle.mailbox.specs.Mail.{head_of}
use Rattle.mailbox.specs.Lines.{Line, tool, service, speech_of, size_of, two_lines}
use Rattle.mailbox.proofs.MailTrip.{round_mail, mail_long}

module _ (E : Entries) (S : Sound E) where
  eight-carried : (g : E.Store) (x : Pending Key) (a : Request Key) → Carried (serve (gauge E) eight g x a).answer
  eight-carried = answers E S eight Carried held-eight

  long_carried : (g : E.Store) (x : Pending Key) (a : Request Key) → CarriedLong (serve (gauge E) long_form g x a).answer
  long_carried = answers E S long_form CarriedLong held_long

  -- a client reads in every answer what the board meant
  pub clear : (boxed : Bool) → Clear (two_lines E boxed)
  clear true tool m g x a = round_mail m _ (long_carried g x a)
  clear false tool m g x a = round _ (eight-carried g x a)
  clear boxed service m g x a = round _ (eight-carried g x a)

  -- every answer is as long as the line's answers are, or none
  abbrev told : Bool → Line → List ℕ → E.Store → Pending Key → Request Key → List ℕ
  told boxed l m g x a = (speech_of boxed l).answer m (serve (gauge E) (speech_of boxed l).form g x a).answer

  pub spoken-size : (boxed : Bool) (l : Line) (m : List ℕ) (g : E.Store) (x : Pending Key) (a : Request Key) → (told boxed l m g x a ≡ []) ⊎ (length (told boxed l m g x a) ≡ size_of boxed l)
  spoken-size true tool m g x a = mail_long (head_of m) _ (long_carried g x a)
  spoken-size false tool m g x a = spoken-eight E S g x a
  spoken-size boxed service m g x a = spoken-eight E S g x a
