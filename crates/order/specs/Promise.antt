-- RULE: DEMAND 3, freed of bytes. `Serial` is what a reader has to believe, with the definitions that it names.
use Rattle.std.specs.Prelude.{ℕ, suc, ◌+◌, ◌*◌, ◌≤◌, ◌<◌, ◌≡◌, Bool, true, false, cond, not, List, [], ◌∷◌, map, length, take}
use Rattle.std.proofs.Math.Option.{none, some}
use Rattle.order.specs.Talk.{Request, open_read, next_part, expedited, open_write, send_part, give_up, unknown, Answer, opened, part_given, write_opened, part_taken, refused, dropped, no_transfer, silent, Result}
use Rattle.order.specs.Gauge.{Gauge, Op, results, end_of}
use Rattle.order.specs.Serve.{if_same, Setup, After, kept, wiped, Board, Event, message, sample, served_on, step, trace, run}
use Rattle.order.specs.Observe.{if_yes, Done, follow, observe, fresh}

-- the operations of a list of finished ones, and what the client got for them
abbrev pub ops_of : (P : Gauge) → List (Done P) → List (Op P)
ops_of P ds = map (λ (d : Done P). d.0) ds

abbrev pub got_of : (P : Gauge) → List (Done P) → List Result
got_of P ds = map (λ (d : Done P). d.1) ds

-- does this message, so answered, end a write with yes?
unfoldable pub ends_write : {K N : Type 0} → Request K → Answer N → Bool
unfolding if_yes
ends_write (open_read k) t = false
ends_write (next_part u) t = false
ends_write (expedited k s bytes) t = if_yes t true false
ends_write (open_write k n bytes) t = false
ends_write (send_part u bytes last) t = cond last (if_yes t true false) false
ends_write give_up t = false
ends_write unknown t = false

-- the aborts
unfoldable pub is_abort : {N : Type 0} → Answer N → Bool
is_abort (opened k n bytes all) = false
is_abort (part_given t bytes last) = false
is_abort (write_opened k) = false
is_abort (part_taken t) = false
is_abort (refused k c) = true
is_abort (dropped k c) = true
is_abort no_transfer = true
is_abort silent = false

abbrev pub IfSame : {A : Type 0} → Dec A → Type 0 → Type 0 → Type 0
IfSame (yes a) X Y = X
IfSame (no n) X Y = Y

-- not a device reset
abbrev pub Spares : {K : Type 0} → After K → Type 0
Spares (kept x) = Unit {0}
Spares wiped = ⊥

module _ (S : Setup) where
  -- the board with a store and no transfer on any line, as power-up leaves it
  abbrev pub start : S.gauge.Store → Board S
  start g = record { store = g; lines = S.wires.clear }

  -- what the client makes of a run: the finished operations, each with what it got, in their order
  abbrev pub done_in : S.gauge.Store → List (Event S) → List (Done S.gauge)
  done_in g es = observe S (trace S (start g) es) (fresh S)

  -- THE ORDER (R15.7): the plain gauge, given these operations one at a time, gives the same results and ends with the same store
  pub record Serial (g : S.gauge.Store) (es : List (Event S)) : Type 0 where
    pub same_results : results S.gauge g (ops_of S.gauge (done_in g es)) ≡ got_of S.gauge (done_in g es)
    pub same_end : end_of S.gauge g (ops_of S.gauge (done_in g es)) ≡ (run S (start g) es).store

  -- the messages of line l ask for parts, with right toggles from t on (R6.3); other lines and samples are free
  abbrev pub Right : S.wires.Line → List (Event S) → Bool → Type 0
  Right l [] t = Unit {0}
  Right l (sample s ∷ es) t = Right l es t
  Right l (message m a ∷ es) t = IfSame (S.wires.same l m) ((a ≡ next_part t) × Right l es (not t)) (Right l es t)

  -- how many messages stand on line l
  abbrev pub count : S.wires.Line → List (Event S) → ℕ
  count l [] = 0
  count l (sample s ∷ es) = count l es
  count l (message m a ∷ es) = if_same (S.wires.same l m) (suc (count l es)) (count l es)

  -- no device reset is done in this run
  abbrev pub Calm : Board S → List (Event S) → Type 0
  Calm b [] = Unit {0}
  Calm b (sample s ∷ es) = Calm (step S b (sample s)).0 es
  Calm b (message m a ∷ es) = Spares (served_on S b m a).after × Calm (step S b (message m a)).0 es

  -- THE COUNT (R6.6): a read of which `place` bytes are got, on line l, ends with its bytes once its parts reach the end, and not before
  pub record Ends (l : S.wires.Line) (bytes : List ℕ) (place : ℕ) (b : Board S) (es : List (Event S)) : Type 0 where
    pub at_last : length bytes ≤ place + count l es * (S.speech l).form.size → follow S l (trace S b es) (take place bytes) ≡ some bytes
    pub not_before : place + count l es * (S.speech l).form.size < length bytes → follow S l (trace S b es) (take place bytes) ≡ none
