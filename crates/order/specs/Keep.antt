-- RULE: A LINE'S TRANSFER KEPT IN A RECORD, and demand 3 of the board with its records: `speak` is one message of one line, on the store
-- and that line's record.
use Rattle.std.specs.Prelude.{ℕ, ◌+◌, ◌*◌, ◌≤◌, ◌<◌, ◌≡◌, Bool, true, false, cond, List, [], ◌∷◌, map, length, take}
use Rattle.std.proofs.Math.Option.{Option, none, some}
use Rattle.order.specs.Talk.{Request, Pending, idle}
use Rattle.order.specs.Gauge.{Gauge, results, end_of}
use Rattle.order.specs.Serve.{Speech, put_at, Setup, After, kept, wiped, remains, Served, serve}
use Rattle.order.specs.Observe.{Done, follow}
use Rattle.order.specs.Promise.{ops_of, got_of, Right, count}
use Rattle.order.specs.Bytes.{Call, heard, sensed, meant, reads, client}

-- how a transfer is kept: the record of none, the transfer that a record stands for, and the record after a request, which is laid
-- over the one before
pub record Keeping (K : Type 0) : Type 1 where
  pub Record : Type 0
  pub empty : Record
  pub view : Record → Pending K
  pub lay : Record → Request K → Pending K → Record

abbrev pub is_wiped : {K : Type 0} → After K → Bool
is_wiped (kept x) = false
is_wiped wiped = true

module _ (P : Gauge) (R : Keeping P.Key) where
  -- what one message of a line comes to: the store, the line's record, whether a device reset drops the transfers of all lines, and the
  -- answer's bytes (none: no answer)
  pub record Spoken : Type 0 where
    pub store : P.Store
    pub next : R.Record
    pub reset : Bool
    pub bytes : List ℕ

  abbrev pub spoken : Speech P.Key P.Name → R.Record → List ℕ → Served P → Spoken
  spoken H t m s = record { store = s.store; next = R.lay t (H.ask m) (remains s.after); reset = is_wiped s.after; bytes = H.answer m s.answer }

  -- ONE MESSAGE on a line with record t
  unfoldable pub speak : Speech P.Key P.Name → P.Store → R.Record → List ℕ → Spoken
  speak H g t m = spoken H t m (serve P H.form g (R.view t) (H.ask m))

-- how many messages line l has among these calls
abbrev pub parts_asked_in : (S : Setup) → S.wires.Line → List (Call S) → ℕ
parts_asked_in S l cs = count S l (map (meant S) cs)

module _ (S : Setup) (R : Keeping S.gauge.Key) where
  pub record RecordBoard : Type 0 where
    pub store : S.gauge.Store
    pub records : S.wires.Line → R.Record

  -- a device reset drops all (R6.1)
  abbrev pub records_after : (S.wires.Line → R.Record) → S.wires.Line → Spoken S.gauge R → S.wires.Line → R.Record
  records_after rs l s = cond s.reset (λ m. R.empty) (put_at S.wires.same rs l s.next)

  abbrev pub spoken_on : RecordBoard → S.wires.Line → List ℕ → Spoken S.gauge R
  spoken_on b l m = speak S.gauge R (S.speech l) b.store (b.records l) m

  -- ONE CALL
  unfoldable pub record_call : RecordBoard → Call S → RecordBoard × List ℕ
  record_call b (heard l m) = (record { store = (spoken_on b l m).store; records = records_after b.records l (spoken_on b l m) }, (spoken_on b l m).bytes)
  record_call b (sensed s) = (record { store = S.gauge.sampled b.store s; records = b.records }, [])

  unfoldable pub record_talk : RecordBoard → List (Call S) → List (Call S × List ℕ)
  record_talk b [] = []
  record_talk b (c ∷ cs) = (c, (record_call b c).1) ∷ record_talk (record_call b c).0 cs

  unfoldable pub record_end : RecordBoard → List (Call S) → RecordBoard
  record_end b [] = b
  record_end b (c ∷ cs) = record_end (record_call b c).0 cs

  -- R9.3
  abbrev pub record_start : S.gauge.Store → RecordBoard
  record_start g = record { store = g; records = λ l. R.empty }

  -- the finished operations, as the client sees them in the bytes
  abbrev pub record_client : S.gauge.Store → List (Call S) → List (Done S.gauge)
  record_client g cs = client S (record_talk (record_start g) cs)

  -- DEMAND 3, of the board with its records
  pub record Demand3Records (g : S.gauge.Store) (cs : List (Call S)) : Type 0 where
    pub same_results : results S.gauge g (ops_of S.gauge (record_client g cs)) ≡ got_of S.gauge (record_client g cs)
    pub same_end : end_of S.gauge g (ops_of S.gauge (record_client g cs)) ≡ (record_end (record_start g) cs).store

  -- no device reset is done in these calls
  abbrev pub NoReset : RecordBoard → List (Call S) → Type 0
  NoReset b [] = Unit {0}
  NoReset b (heard l m ∷ cs) = ((spoken_on b l m).reset ≡ false) × NoReset (record_call b (heard l m)).0 cs
  NoReset b (sensed s ∷ cs) = NoReset (record_call b (sensed s)).0 cs

  -- l's own messages among these calls ask for parts with right toggles, which start at 0 (R6.3), and no device reset is done
  pub record RecordParts (l : S.wires.Line) (b : RecordBoard) (cs : List (Call S)) : Type 0 where
    pub right : Right S l (map (meant S) cs) false
    pub calm : NoReset b cs

  -- the value that the client has after these calls, if the read that it opened on line l before them, of which it has `got`, is finished
  abbrev pub record_got : S.wires.Line → RecordBoard → List (Call S) → List ℕ → Option (List ℕ)
  record_got l b cs got = follow S l (map (reads S) (record_talk b cs)) got

  -- THE COUNT (R6.6), of the board with its records: a read of which `place` bytes are got ends once its parts reach the end, and not before
  pub record RecordEnds (l : S.wires.Line) (bytes : List ℕ) (place : ℕ) (b : RecordBoard) (cs : List (Call S)) : Type 0 where
    pub at_last : length bytes ≤ place + parts_asked_in S l cs * (S.speech l).form.size → record_got l b cs (take place bytes) ≡ some bytes
    pub not_before : place + parts_asked_in S l cs * (S.speech l).form.size < length bytes → record_got l b cs (take place bytes) ≡ none

  -- ---- what is asked of a keeping

  -- `Good` is asked of the store, `Whole` of a record
  module _ (Good : S.gauge.Store → Type 0) (Whole : R.Record → Type 0) where
    -- what a message leaves is seen again in the record that is kept
    pub record Again (l : S.wires.Line) (g : S.gauge.Store) (t : R.Record) (m : List ℕ) : Type 0 where
      pub good : Good (speak S.gauge R (S.speech l) g t m).store
      pub whole : Whole (speak S.gauge R (S.speech l) g t m).next
      pub seen : R.view (speak S.gauge R (S.speech l) g t m).next ≡ remains (serve S.gauge (S.speech l).form g (R.view t) ((S.speech l).ask m)).after

    pub record Keeps : Type 0 where
      pub empty_whole : Whole R.empty
      pub empty_idle : R.view R.empty ≡ idle
      pub again : (l : S.wires.Line) (g : S.gauge.Store) (t : R.Record) (m : List ℕ) → Good g → Whole t → Again l g t m
      pub sample_good : (g : S.gauge.Store) (s : S.gauge.Sample) → Good g → Good (S.gauge.sampled g s)
