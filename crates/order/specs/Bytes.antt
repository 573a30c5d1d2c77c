-- RULE: DEMAND 3 ON BYTES: each line speaks in its own way; the board is given bytes and gives bytes, and the client sees only these.
use Rattle.std.specs.Prelude.{ℕ, ◌≡◌, List, [], ◌∷◌, map}
use Rattle.order.specs.Talk.{Request, Answer, silent, Pending}
use Rattle.order.specs.Gauge.{results, end_of}
use Rattle.order.specs.Serve.{Setup, serve, Board, Event, message, sample, step}
use Rattle.order.specs.Observe.{Done, observe, fresh}
use Rattle.order.specs.Promise.{ops_of, got_of, start}

module _ (S : Setup) where
  -- what the board's calls are given: a line and a message's bytes, or a sample
  pub data Call : Type 0 where
    heard : S.wires.Line → List ℕ → Call
    sensed : S.gauge.Sample → Call

  abbrev pub meant : Call → Event S
  meant (heard l m) = message l ((S.speech l).ask m)
  meant (sensed s) = sample s

  abbrev pub answer_bytes : Call → Answer S.gauge.Name → List ℕ
  answer_bytes (heard l m) t = (S.speech l).answer m t
  answer_bytes (sensed s) t = []

  -- THE BOARD ON BYTES
  unfoldable pub call : Board S → Call → Board S × List ℕ
  call b c = ((step S b (meant c)).0, answer_bytes c (step S b (meant c)).1)

  -- calls and their answers, in order
  unfoldable pub talk : Board S → List Call → List (Call × List ℕ)
  talk b [] = []
  talk b (c ∷ cs) = (c, (call b c).1) ∷ talk (call b c).0 cs

  unfoldable pub after_all : Board S → List Call → Board S
  after_all b [] = b
  after_all b (c ∷ cs) = after_all (call b c).0 cs

  abbrev pub understood : Call → List ℕ → Answer S.gauge.Name
  understood (heard l m) a = (S.speech l).tell m a
  understood (sensed s) a = silent

  abbrev pub reads : Call × List ℕ → Event S × Answer S.gauge.Name
  reads p = (meant p.0, understood p.0 p.1)

  -- THE CLIENT: the finished operations, from the calls and the answers' bytes alone
  unfoldable pub client : List (Call × List ℕ) → List (Done S.gauge)
  client ps = observe S (map reads ps) (fresh S)

  -- THE ORDER, on bytes
  pub record SerialBytes (g : S.gauge.Store) (cs : List Call) : Type 0 where
    pub same_results : results S.gauge g (ops_of S.gauge (client (talk (start S g) cs))) ≡ got_of S.gauge (client (talk (start S g) cs))
    pub same_end : end_of S.gauge g (ops_of S.gauge (client (talk (start S g) cs))) ≡ (after_all (start S g) cs).store

  -- a client reads in each answer's bytes what the board meant: shown of a way to speak, once
  abbrev pub Clear : Type 0
  Clear =
      (l : S.wires.Line) (m : List ℕ) (g : S.gauge.Store) (x : Pending S.gauge.Key) (a : Request S.gauge.Key)
      → (S.speech l).tell m ((S.speech l).answer m (serve S.gauge (S.speech l).form g x a).answer) ≡ (serve S.gauge (S.speech l).form g x a).answer
