-- RULE: THE CLIENT'S SIDE: which reads and writes are finished, with what, and where each is put in the order. It is given requests and
-- answers, and nothing of the board's memory. A read is put at its opening (R15.2), a write at the message that ends it (R15.3).
use Rattle.std.specs.Prelude.{ℕ, Bool, true, false, cond}
use mathlib.Core.List.{List, [], ◌∷◌, ◌++◌}
use Rattle.std.proofs.Math.Option.{Option, none, some, map}
use Rattle.order.specs.Talk.{Request, open_read, next_part, expedited, open_write, send_part, give_up, unknown, Answer, opened, part_given, write_opened, part_taken, refused, dropped, no_transfer, silent, Result, gave, yes!, code, taken}
use Rattle.order.specs.Gauge.{Gauge, say, Op, read, write, feed}
use Rattle.order.specs.Serve.{if_same, put_at, Setup, Event, message, sample}

-- what the client remembers of a line: the write that it is sending, with the length announced and the bytes sent
pub data Seen (K : Type 0) : Type 0 where
  nothing : Seen K
  sending : K → Option ℕ → List ℕ → Seen K

-- what an answer brings to a read that goes on: nothing, or bytes, and whether they are the last
pub data Gain : Type 0 where
  broken : Gain
  gained : List ℕ → Bool → Gain

unfoldable pub noted : {K : Type 0} → Seen K → List ℕ → Bool → Seen K
noted nothing bytes last = nothing
noted (sending k n sent) bytes last = cond last nothing (sending k n (sent ++ bytes))

module _ {N : Type 0} where
  unfoldable pub gained_by : Answer N → Gain
  gained_by (opened k n bytes all) = broken
  gained_by (part_given t bytes last) = gained bytes last
  gained_by (write_opened k) = broken
  gained_by (part_taken t) = broken
  gained_by (refused k c) = broken
  gained_by (dropped k c) = broken
  gained_by no_transfer = broken
  gained_by silent = broken

  -- only a request for the next part goes on with a read
  unfoldable pub gain : {K : Type 0} → Request K → Answer N → Gain
  unfolding gained_by
  gain (open_read k) t = broken
  gain (next_part u) t = gained_by t
  gain (expedited k s bytes) t = broken
  gain (open_write k n bytes) t = broken
  gain (send_part u bytes last) t = broken
  gain give_up t = broken
  gain unknown t = broken

  -- what ends a write at its last message: yes, or a code from 06020000 on
  unfoldable pub ended : Answer N → Option Result
  ended (opened k n bytes all) = none
  ended (part_given t bytes last) = none
  ended (write_opened k) = some yes!
  ended (part_taken t) = some yes!
  ended (refused k c) = some (code c)
  ended (dropped k c) = none
  ended no_transfer = none
  ended silent = none

  -- what ends a write at an earlier message: a code from 06020000 on (R15.3)
  unfoldable pub ended_early : Answer N → Option Result
  ended_early (opened k n bytes all) = none
  ended_early (part_given t bytes last) = none
  ended_early (write_opened k) = none
  ended_early (part_taken t) = none
  ended_early (refused k c) = some (code c)
  ended_early (dropped k c) = none
  ended_early no_transfer = none
  ended_early silent = none

  -- y if the answer says yes to a message of a write, else z
  unfoldable pub if_yes : {A : Type 0} → Answer N → A → A → A
  if_yes (opened k n bytes all) y z = z
  if_yes (part_given t bytes last) y z = z
  if_yes (write_opened k) y z = y
  if_yes (part_taken t) y z = y
  if_yes (refused k c) y z = z
  if_yes (dropped k c) y z = z
  if_yes no_transfer y z = z
  if_yes silent y z = z

  -- what the client remembers after a message of the line and its answer; a code before 06020000 only drops a transfer (R15.5)
  unfoldable pub note : {K : Type 0} → Seen K → Request K → Answer N → Seen K
  unfolding if_yes noted
  note o (open_read k) t = nothing
  note o (next_part u) t = nothing
  note o (expedited k s bytes) t = nothing
  note o (open_write k n bytes) t = if_yes t (sending k n bytes) nothing
  note o (send_part u bytes last) t = if_yes t (noted o bytes last) nothing
  note o give_up t = nothing
  note o unknown t = nothing

-- a read of which `got` is got so far: it is finished by the part that is marked as the last, whatever length the opening told
unfoldable pub onward : Gain → List ℕ → (List ℕ → Option (List ℕ)) → Option (List ℕ)
onward broken got rest = none
onward (gained bytes true) got rest = some (got ++ bytes)
onward (gained bytes false) got rest = rest (got ++ bytes)

module _ (P : Gauge) where
  -- an operation with what the client got for it
  abbrev pub Done : Type 0
  Done = Op P × Result

  -- the read that this answer opens; `ahead` finds the rest of its bytes in the parts that follow, given those in hand
  unfoldable pub read_done : P.Key → Answer P.Name → (List ℕ → Option (List ℕ)) → Option Done
  read_done k (opened k' n bytes true) ahead = some (read k, gave bytes)
  read_done k (opened k' n bytes false) ahead = map (λ v. (read k, gave v)) (ahead bytes)
  read_done k (part_given t bytes last) ahead = none
  read_done k (write_opened k') ahead = none
  read_done k (part_taken t) ahead = none
  read_done k (refused k' c) ahead = some (read k, code c)
  read_done k (dropped k' c) ahead = none
  read_done k no_transfer ahead = none
  read_done k silent ahead = none

  unfoldable pub part_done : Seen P.Key → List ℕ → Bool → Answer P.Name → Option Done
  unfolding ended ended_early
  part_done nothing bytes last t = none
  part_done (sending k n sent) bytes last t = map (λ r. (write k (say n) (sent ++ bytes), r)) (cond last (ended t) (ended_early t))

  -- the operation to be put at this message, if any (R15.2, R15.3), with what the plain gauge is given (R15.6)
  unfoldable pub finished : Seen P.Key → Request P.Key → Answer P.Name → (List ℕ → Option (List ℕ)) → Option Done
  unfolding read_done part_done ended ended_early
  finished o (open_read k) t ahead = read_done k t ahead
  finished o (next_part u) t ahead = none
  finished o (expedited k s bytes) t ahead = map (λ r. (write k s bytes, r)) (ended t)
  finished o (open_write k n bytes) t ahead = map (λ r. (write k (say n) bytes, r)) (ended_early t)
  finished o (send_part u bytes last) t ahead = part_done o bytes last t
  finished o give_up t ahead = none
  finished o unknown t ahead = none

  unfoldable pub placed : Option Done → List Done → List Done
  placed none ds = ds
  placed (some d) ds = d ∷ ds

module _ (S : Setup) where
  abbrev pub Seens : Type 0
  Seens = S.wires.Line → Seen S.gauge.Key

  abbrev pub Pairs : Type 0
  Pairs = List (Event S × Answer S.gauge.Name)

  -- messages of other lines and samples are passed over
  unfoldable pub follow_one : S.wires.Line → Event S → Answer S.gauge.Name → List ℕ → (List ℕ → Option (List ℕ)) → Option (List ℕ)
  unfolding onward gain
  follow_one l (message m a) t got rest = if_same (S.wires.same l m) (onward (gain a t) got rest) (rest got)
  follow_one l (sample s) t got rest = rest got

  -- the rest of a read on line l, of which `got` is got: all its bytes, if it is finished
  unfoldable pub follow : S.wires.Line → Pairs → List ℕ → Option (List ℕ)
  unfolding follow_one
  follow l [] got = none
  follow l (p ∷ ps) got = follow_one l p.0 p.1 got (follow l ps)

  unfoldable pub observe_one : Seens → Event S → Answer S.gauge.Name → (S.wires.Line → List ℕ → Option (List ℕ)) → (Seens → List (Done S.gauge)) → List (Done S.gauge)
  unfolding placed put_at
  observe_one os (message l a) t ahead rest = placed S.gauge (finished S.gauge (os l) a t (ahead l)) (rest (put_at S.wires.same os l (note (os l) a t)))
  observe_one os (sample s) t ahead rest = (feed s, taken) ∷ rest os

  -- THE OBSERVER: reads at their opening, writes at the message that ends them, samples at their place (R15.2 to R15.4)
  unfoldable pub observe : Pairs → Seens → List (Done S.gauge)
  unfolding observe_one
  observe [] os = []
  observe (p ∷ ps) os = observe_one os p.0 p.1 (λ l. follow l ps) (observe ps)

  -- at the start the client has sent nothing
  abbrev pub fresh : Seens
  fresh l = nothing
