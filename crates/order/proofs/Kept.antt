-- DEMAND 3 of a board that keeps its transfers in records: seen through them it is a board of lines, call by call.
use Prim.Native.Nat.{ℕ, ◌<◌, ◌≤◌}
use native.Mathlib.Omega.{arith}
use mathlib.Core.Path.{◌≡◌, refl, sym, ap, ap₂, ◌∙◌, subst}
use mathlib.Core.Bool.{Bool, true, false, cond, false≢true}
use mathlib.Core.List.{List, [], ◌∷◌, map}
use lib.Dec.{T}
use lib.ListN.{length, take}
use Rattle.order.specs.Talk.{Request, open_read, Answer, Read, value, Pending, idle, reading}
use Rattle.order.specs.Gauge.{Gauge}
use Rattle.order.specs.Serve.{Form, Speech, if_same, put_at, Setup, After, kept, wiped, remains, Reply, read_opening, Served, serve, Board, served_on, leave, step, trace}
use Rattle.order.specs.Observe.{Pairs, follow}
use Rattle.order.specs.Promise.{ends_write, is_abort, Spares, start, Right, Calm, Ends}
use Rattle.order.specs.Bytes.{Call, heard, sensed, meant, call, talk, reads, after_all, SerialBytes, Clear}
use Rattle.order.specs.Keep.{Keeping, is_wiped, spoken, speak, RecordBoard, record_call, record_talk, record_end, record_start, Demand3Records, NoReset, RecordParts, record_got, RecordEnds, Again, Keeps}
use Rattle.order.proofs.Serial.{by_cond, own_line}
use Rattle.order.proofs.Count.{untouched, aborts_drop, ends}
use Rattle.order.proofs.OnBytes.{serial_bytes, decoded}

-- ---- one message of one line

module _ (P : Gauge) (R : Keeping P.Key) (H : Speech P.Key P.Name) (g : P.Store) (t : R.Record) (m : List ℕ) where
  -- what the message comes to on the transfer that the record stands for
  abbrev pub on_record : Served P
  on_record = serve P H.form g (R.view t) (H.ask m)

  -- THEOREM: a message that the client does not see end a write with yes leaves the store
  pub unfinished : H.tell m (H.answer m on_record.answer) ≡ on_record.answer
      → ends_write (H.ask m) (H.tell m (speak P R H g t m).bytes) ≡ false → (speak P R H g t m).store ≡ g
  unfolding speak
  unfinished told h = untouched P H.form g (R.view t) (H.ask m) (subst (λ (y : Answer P.Name). ends_write (H.ask m) y ≡ false) told h)

  -- THEOREM: every abort drops its transfer (R6.2) and leaves the store as it was (R7.10)
  pub abort_drops : is_abort on_record.answer ≡ true → speak P R H g t m ≡ record { store = g; next = R.lay t (H.ask m) idle; reset = false; bytes = H.answer m on_record.answer }
  unfolding speak
  abort_drops e = ap (spoken P R H t m) (aborts_drop P H.form g (R.view t) (H.ask m) e)

-- ---- the two boards, call by call

module _ (S : Setup) (R : Keeping S.gauge.Key) {Good : S.gauge.Store → Type 0} {Whole : R.Record → Type 0} (K : Keeps S R Good Whole) where
  abbrev P : Gauge
  P = S.gauge

  -- the stores are the same, each record stands for what its line holds, and all is as the keeping asks
  pub record Shows (b : RecordBoard S R) (d : Board S) : Type 0 where
    pub same_store : b.store ≡ d.store
    pub same_lines : (l : S.wires.Line) → R.view (b.records l) ≡ S.wires.at d.lines l
    pub good : Good b.store
    pub whole : (l : S.wires.Line) → Whole (b.records l)

  pub shows_start : (g : P.Store) → Good g → Shows (record_start S R g) (start S g)
  shows_start g ok = record { same_store = refl; same_lines = λ l. K.empty_idle ∙ sym (S.wires.at_clear l); good = ok; whole = λ l. K.empty_whole }

  -- after a message of line l, which leaves t there, each record stands for what its line holds
  lines_after : (rs : S.wires.Line → R.Record) (ls : S.wires.Lines) (l n : S.wires.Line) (t : R.Record) (a : After P.Key) → R.view t ≡ remains a
      → R.view (rs n) ≡ S.wires.at ls n → R.view (cond (is_wiped a) (λ m. R.empty) (put_at S.wires.same rs l t) n) ≡ S.wires.at (leave S ls l a) n
  unfolding put_at
  lines_after rs ls l n t wiped e h = K.empty_idle ∙ sym (S.wires.at_clear n)
  lines_after rs ls l n t (kept x) e h = go (S.wires.same n l)
    where
      go : (d : Dec (n ≡ l)) → R.view (if_same d t (rs n)) ≡ S.wires.at (S.wires.with ls l x) n
      go (yes q) = e ∙ sym (ap (S.wires.at (S.wires.with ls l x)) q ∙ S.wires.at_same ls l x)
      go (no q) = h ∙ sym (S.wires.at_other ls l n x q)

  -- and all are whole
  whole-after : (rs : S.wires.Line → R.Record) (l n : S.wires.Line) (t : R.Record) (wipes : Bool) → Whole t → Whole (rs n)
      → Whole (cond wipes (λ m. R.empty) (put_at S.wires.same rs l t) n)
  unfolding put_at
  whole-after rs l n t true w h = K.empty_whole
  whole-after rs l n t false w h = go (S.wires.same n l)
    where
      go : (d : Dec (n ≡ l)) → Whole (if_same d t (rs n))
      go (yes e) = w
      go (no e) = h

  -- a message comes to the same on both
  same-served : (b : RecordBoard S R) (d : Board S) → Shows b d → (l : S.wires.Line) (m : List ℕ)
      → on_record P R (S.speech l) b.store (b.records l) m ≡ served_on S d l ((S.speech l).ask m)
  same-served b d w l m = ap₂ (λ (g : P.Store) (x : Pending P.Key). serve P (S.speech l).form g x ((S.speech l).ask m)) w.same_store (w.same_lines l)

  -- one call: the same bytes, and the boards go on together
  pub record Follows (b : RecordBoard S R) (d : Board S) (c : Call S) : Type 0 where
    pub same_bytes : (record_call S R b c).1 ≡ (call S d c).1
    pub on : Shows (record_call S R b c).0 (call S d c).0

  pub follows : (b : RecordBoard S R) (d : Board S) (c : Call S) → Shows b d → Follows b d c
  unfolding record_call call step speak
  follows b d (sensed s) w =
      record {
        same_bytes = refl;
        on = record { same_store = ap (λ (g : P.Store). P.sampled g s) w.same_store; same_lines = w.same_lines; good = K.sample_good b.store s w.good; whole = w.whole };
      }
  follows b d (heard l m) w =
      record {
        same_bytes = ap (λ (y : Served P). (S.speech l).answer m y.answer) e;
        on =
            record {
              same_store = ap (λ (y : Served P). y.store) e;
              same_lines = λ n.
                  lines_after b.records d.lines l n t' s.after again.seen (w.same_lines n) ∙ ap (λ (y : Served P). S.wires.at (leave S d.lines l y.after) n) e;
              good = again.good;
              whole = λ n. whole-after b.records l n t' (is_wiped s.after) again.whole (w.whole n);
            };
      }
    where
      s : Served P
      s = on_record P R (S.speech l) b.store (b.records l) m

      t' : R.Record
      t' = R.lay (b.records l) ((S.speech l).ask m) (remains s.after)

      again : Again S R Good Whole l b.store (b.records l) m
      again = K.again l b.store (b.records l) m w.good (w.whole l)

      e : s ≡ served_on S d l ((S.speech l).ask m)
      e = same-served b d w l m

  pub same-talk : (cs : List (Call S)) (b : RecordBoard S R) (d : Board S) → Shows b d → record_talk S R b cs ≡ talk S d cs
  unfolding record_talk talk
  same-talk [] b d w = refl
  same-talk (c ∷ cs) b d w =
      let f : Follows b d c = follows b d c w in
      ap₂ (λ (bytes : List ℕ) (r : List (Call S × List ℕ)). (c, bytes) ∷ r) f.same_bytes (same-talk cs (record_call S R b c).0 (call S d c).0 f.on)

  pub shows_end : (cs : List (Call S)) (b : RecordBoard S R) (d : Board S) → Shows b d → Shows (record_end S R b cs) (after_all S d cs)
  unfolding record_end after_all
  shows_end [] b d w = w
  shows_end (c ∷ cs) b d w = shows_end cs (record_call S R b c).0 (call S d c).0 (follows b d c w).on

  -- ---- the count of parts

  -- an opening that does not carry all leaves a read
  open_long : (F : Form) (k : P.Key) (bytes : List ℕ) → F.carried (length bytes) < length bytes → (read_opening P F k (value bytes)).next ≡ reading k bytes (F.carried (length bytes)) false
  unfolding read_opening
  open_long F k bytes h = by_cond (λ (r : Reply P). r.next ≡ reading k bytes (F.carried (length bytes)) false) (F.closes (length bytes)) _ _ all (λ _. refl)
    where
      all : F.closes (length bytes) ≡ true → idle ≡ reading k bytes (F.carried (length bytes)) false
      all e = let q : length bytes ≤ F.carried (length bytes) = F.closes_all (length bytes) (subst T (sym e) tt) in absurd (omega arith)

  spares : (a : After P.Key) → is_wiped a ≡ false → Spares a
  spares (kept x) e = tt
  spares wiped e = absurd (false≢true (sym e))

  no_reset_calm : (cs : List (Call S)) (b : RecordBoard S R) (d : Board S) → Shows b d → NoReset S R b cs → Calm S d (map (meant S) cs)
  unfolding call speak step
  no_reset_calm [] b d w n = tt
  no_reset_calm (heard l m ∷ cs) b d w n = (
    subst (λ (y : Served P). Spares y.after) (same-served b d w l m) (spares (on_record P R (S.speech l) b.store (b.records l) m).after n.0),
    no_reset_calm cs (record_call S R b (heard l m)).0 (call S d (heard l m)).0 (follows b d (heard l m) w).on n.1,
  )
  no_reset_calm (sensed s ∷ cs) b d w n = no_reset_calm cs (record_call S R b (sensed s)).0 (call S d (sensed s)).0 (follows b d (sensed s) w).on n

  module _ (clear : Clear S) where
    -- THEOREM: demand 3, of the board with its records, for every list of calls from any good store with no transfer under way
    pub demand3_records : (g : P.Store) → Good g → (cs : List (Call S)) → Demand3Records S R g cs
    demand3_records g ok cs =
        let d : SerialBytes S g cs = serial_bytes S clear g cs in
        let w : Shows (record_start S R g) (start S g) = shows_start g ok in
        let talked : record_talk S R (record_start S R g) cs ≡ talk S (start S g) cs = same-talk cs (record_start S R g) (start S g) w in
        record {
          same_results = rw talked d.same_results;
          same_end = rw talked (d.same_end ∙ sym (shows_end cs (record_start S R g) (start S g) w).same_store);
        }

    -- THEOREM: a read that a record stands for ends after exactly the parts that its length asks for, whatever the other lines do
    pub record_ends : (l : S.wires.Line) (k : P.Key) (bytes : List ℕ) (place : ℕ) (t : Bool) (b : RecordBoard S R) (d : Board S) → Shows b d
        → R.view (b.records l) ≡ reading k bytes place t → place < length bytes → (cs : List (Call S)) → Right S l (map (meant S) cs) t → NoReset S R b cs
        → RecordEnds S R l bytes place b cs
    record_ends l k bytes place t b d w x h cs right calm =
        record { at_last = λ q. got ∙ counted.at_last q; not_before = λ q. got ∙ counted.not_before q }
      where
        got : record_got S R l b cs (take place bytes) ≡ follow S l (trace S d (map (meant S) cs)) (take place bytes)
        got =
            ap (λ (ps : List (Call S × List ℕ)). follow S l (map (reads S) ps) (take place bytes)) (same-talk cs b d w)
            ∙ ap (λ (ps : Pairs S). follow S l ps (take place bytes)) (decoded S clear cs d)

        counted : Ends S l bytes place d (map (meant S) cs)
        counted = ends S l k bytes (map (meant S) cs) d place t (sym (w.same_lines l) ∙ x) h right (no_reset_calm cs b d w calm)

    -- a message of line l opens a read of bytes that its answer does not carry all
    module _ (l : S.wires.Line) (b : RecordBoard S R) (d : Board S) (w : Shows b d) (m : List ℕ) (k : P.Key) (bytes : List ℕ)
        (opens : (S.speech l).ask m ≡ open_read k) (holds : P.read_whole b.store k ≡ value bytes) (long : (S.speech l).form.carried (length bytes) < length bytes) where
      abbrev F : Form
      F = (S.speech l).form

      line_reads : S.wires.at (call S d (heard l m)).0.lines l ≡ reading k bytes (F.carried (length bytes)) false
      unfolding call step serve
      line_reads =
          own_line S d.lines l (served_on S d l ((S.speech l).ask m)).after
          ∙ ap (λ (a : Request P.Key). remains (served_on S d l a).after) opens
          ∙ ap (λ (r : Read). (read_opening P F k r).next) (ap (λ (g : P.Store). P.read_whole g k) (sym w.same_store) ∙ holds)
          ∙ open_long F k bytes long

      -- THEOREM: such a read ends after exactly the parts that the rest of its bytes asks for
      pub opened-ends : (cs : List (Call S)) → RecordParts S R l (record_call S R b (heard l m)).0 cs
          → RecordEnds S R l bytes ((S.speech l).form.carried (length bytes)) (record_call S R b (heard l m)).0 cs
      opened-ends cs parts =
          let on : Shows (record_call S R b (heard l m)).0 (call S d (heard l m)).0 = (follows b d (heard l m) w).on in
          record_ends l k bytes (F.carried (length bytes)) false (record_call S R b (heard l m)).0 (call S d (heard l m)).0 on (on.same_lines l ∙ line_reads) long cs parts.right parts.calm
