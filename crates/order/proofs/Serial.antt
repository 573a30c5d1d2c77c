-- THE ORDER: any mix of messages and samples comes to what the plain gauge does, one whole operation after the other. By one induction
-- over the events, from what lies ahead of a read (`Ahead`) and what the client remembers of a write (`Tracks`).
use Prim.Native.Nat.{ℕ, ◌+◌}
use mathlib.Core.Path.{◌≡◌, refl, sym, ap, ap₂, ◌∙◌, subst}
use mathlib.Core.Logic.{◌⊎◌, inl, inr, ◌≢◌}
use mathlib.Core.Bool.{Bool, true, false, cond, not, beq}
use mathlib.Core.List.{List, [], ◌∷◌, ◌++◌}
use mathlib.Core.Option.{Option, none, some, map}
use lib.Dec.{T, ltb, leb, leb→le}
use lib.ListN.{length, take}
use lib.Seq.{take-add, take_all}
use Rattle.order.specs.Talk.{Said, Request, open_read, next_part, expedited, open_write, send_part, give_up, unknown, Answer, write_opened, part_taken, dropped, Read, value, denied, Sizes, sizes, closed, Outcome, stored, restarted, declined, Pending, idle, reading, writing, gave, yes! }
use Rattle.order.specs.Gauge.{Gauge, too_long, counted, say, judged, judged_by, allowed, write_whole, Op, read, write, read_result, write_result, written, result, after, results, end_of}
use Rattle.order.specs.Serve.{Form, Wires, if_same, put_at, Setup, toggle_code, After, kept, wiped, remains, Reply, over, read_opening, give_part, read_part, take_more, write_opening, Served, keeping, conclude, take_part, write_part, serve, Board, Event, message, sample, leave, step, trace, run}
use Rattle.order.specs.Observe.{Seen, nothing, sending, gain, ended, ended_early, if_yes, noted, note, onward, Done, read_done, part_done, finished, placed, Seens, follow, observe, fresh}
use Rattle.order.specs.Promise.{ops_of, got_of, start, done_in, Serial}

-- ---- a read that goes on: what lies ahead of it, by what its line holds

abbrev Ahead : {K : Type 0} → Pending K → (List ℕ → Option (List ℕ)) → Type 0
Ahead idle f = (acc : List ℕ) → f acc ≡ none
Ahead (reading k bytes p t) f = (f (take p bytes) ≡ none) ⊎ (f (take p bytes) ≡ some bytes)
Ahead (writing k low high sent t) f = (acc : List ℕ) → f acc ≡ none

dead : {K : Type 0} (x : Pending K) (f : List ℕ → Option (List ℕ)) → ((acc : List ℕ) → f acc ≡ none) → Ahead x f
dead idle f h = h
dead (reading k bytes p t) f h = inl (h (take p bytes))
dead (writing k low high sent t) f h = h

-- what is shown of both sides of a branch is shown of it
pub by_cond : {A : Type 0} (R : A → Type 0) (d : Bool) (s s' : A) → (d ≡ true → R s) → (d ≡ false → R s') → R (cond d s s')
by_cond R true s s' h h' = h refl
by_cond R false s s' h h' = h' refl

module _ (P : Gauge) where
  abbrev Onward : Pending P.Key → Bool → (List ℕ → Option (List ℕ)) → Reply P → Type 0
  Onward x u f r = Ahead r.next f → Ahead x (λ acc. onward (gain {K = P.Key} (next_part u) r.answer) acc f)

  own-next : (form : Form) (x : Pending P.Key) (u : Bool) (f : List ℕ → Option (List ℕ)) → Onward x u f (read_part P form x u)
  unfolding onward gain read_part
  own-next form idle u f = λ q acc. refl
  own-next form (reading k bytes p t) u f =
      by_cond (Onward (reading k bytes p t) u f) (beq t u) _ _
      (λ _. by_cond (Onward (reading k bytes p t) u f) (leb (length bytes) (p + form.size)) _ _
      (λ e q. inr (ap some (sym (take-add p form.size bytes) ∙ take_all (p + form.size) bytes (leb→le (length bytes) (p + form.size) (subst T (sym e) tt)))))
      (λ e q. rw (← (take-add p form.size bytes)) q))
      (λ _ q. inl refl)
  own-next form (writing k low high sent t) u f = λ q acc. refl

  own_ahead : (form : Form) (g : P.Store) (x : Pending P.Key) (a : Request P.Key) (f : List ℕ → Option (List ℕ))
      → Ahead (remains (serve P form g x a).after) f → Ahead x (λ acc. onward (gain a (serve P form g x a).answer) acc f)
  unfolding serve onward gain
  own_ahead form g x (open_read k) f q = dead x (λ acc. none) (λ acc. refl)
  own_ahead form g x (next_part u) f q = own-next form x u f q
  own_ahead form g x (expedited k s bytes) f q = dead x (λ acc. none) (λ acc. refl)
  own_ahead form g x (open_write k n bytes) f q = dead x (λ acc. none) (λ acc. refl)
  own_ahead form g x (send_part u bytes last) f q = dead x (λ acc. none) (λ acc. refl)
  own_ahead form g x give_up f q = dead x (λ acc. none) (λ acc. refl)
  own_ahead form g x unknown f q = dead x (λ acc. none) (λ acc. refl)

  -- ---- a write that goes on: what the client has sent is what the board has of it

  abbrev Tracks : Pending P.Key → Seen P.Key → Type 0
  Tracks idle o = Unit {0}
  Tracks (reading k bytes p t) o = Unit {0}
  Tracks (writing k low high sent t) o = (n : Option ℕ) × (o ≡ sending k n sent) × (allowed P k (say n) ≡ sizes low high)

  -- what the plain gauge does at a place
  abbrev Next : P.Store → Option (Done P) → P.Store → Type 0
  Next g none g' = g ≡ g'
  Next g (some d) g' = (result P g d.0 ≡ d.1) × (after P g d.0 ≡ g')

  -- what is known after a message: the place, and what is left
  abbrev Fine : P.Store → Seen P.Key → Option (Done P) → Served P → Type 0
  Fine g o d s = Next g d s.store × Tracks (remains s.after) o

  counted-say : (n : Option ℕ) (high : ℕ) (bytes : List ℕ) → counted (say n) high bytes ≡ bytes
  unfolding counted
  counted-say none high bytes = refl
  counted-say (some n) high bytes = refl

  -- what the reads ahead of an opening bring
  looked : (g : P.Store) (k : P.Key) (bytes : List ℕ) → P.read_whole g k ≡ value bytes
      → (v : Option (List ℕ)) → (v ≡ none) ⊎ (v ≡ some bytes) → Next g (map (λ w. (read k, gave w)) v) g
  unfolding result after
  looked g k bytes e none h = refl
  looked g k bytes e (some w) (inl h) = (cc, refl)
  looked g k bytes e (some w) (inr h) = (cc, refl)

  fine_read_opening : (form : Form) (g : P.Store) (k : P.Key) (f : List ℕ → Option (List ℕ)) (r : Read) → P.read_whole g k ≡ r
      → Ahead (read_opening P form k r).next f → Fine g nothing (read_done P k (read_opening P form k r).answer f) (keeping P g (read_opening P form k r))
  unfolding result after read_done read_opening
  fine_read_opening form g k f (denied c) e = λ q. ((ap (read_result P) e, refl), tt)
  fine_read_opening form g k f (value bytes) e =
      by_cond (λ (r : Reply P). Ahead r.next f → Fine g nothing (read_done P k r.answer f) (keeping P g r)) (form.closes (length bytes)) _ _
      (λ d q. ((ap (read_result P) e ∙ ap gave (sym (take_all (form.carried (length bytes)) bytes (form.closes_all (length bytes) (subst T (sym d) tt)))), refl), tt))
      (λ d q. (looked g k bytes e (f (take (form.carried (length bytes)) bytes)) q, tt))

  -- an answer that says yes to a message of a write
  record IsYes (y : Answer P.Name) : Type 0 where
    ends : ended y ≡ some yes!
    goes : ended_early y ≡ none
    seen : (a b : Seen P.Key) → if_yes y a b ≡ a

  yes_opened : (k : P.Name) → IsYes (write_opened k)
  unfolding ended ended_early if_yes
  yes_opened k = record { ends = refl; goes = refl; seen = λ a b. refl }

  yes_taken : (t : Bool) → IsYes (part_taken t)
  unfolding ended ended_early if_yes
  yes_taken t = record { ends = refl; goes = refl; seen = λ a b. refl }

  -- a write ends here: r is what the plain gauge makes of it
  fine_conclude : (g : P.Store) (k : P.Key) (s : Said) (bytes : List ℕ) (y : Answer P.Name) → IsYes y
      → (r : Outcome P.Store) → write_whole P g k s bytes ≡ r
      → (o : Seen P.Key) → Fine g o (map (λ v. (write k s bytes, v)) (ended (conclude P g k y r).answer)) (conclude P g k y r)
  unfolding result after ended conclude
  fine_conclude g k s bytes y ey (stored g') e o = rw ey.ends ((ap (write_result P) e, ap (written P g) e), tt)
  fine_conclude g k s bytes y ey (restarted g') e o = rw ey.ends ((ap (write_result P) e, ap (written P g) e), tt)
  fine_conclude g k s bytes y ey (declined c) e o = ((ap (write_result P) e, ap (written P g) e), tt)

  -- a message of a write in parts, `all` being what was sent so far
  module _ (g : P.Store) (k : P.Key) (n : Option ℕ) (low high : ℕ) (known : allowed P k (say n) ≡ sizes low high) (all : List ℕ) (y : Answer P.Name) (ey : IsYes y) where
    whole : write_whole P g k (say n) all ≡ judged P g k low high all
    unfolding write_whole
    whole = ap (judged_by P g k (say n) all) known ∙ ap (judged P g k low high) (counted-say n high all)

    overrun : ltb high (length all) ≡ true → write_whole P g k (say n) all ≡ declined too_long
    unfolding judged
    overrun e = whole ∙ rw e

    fine_more : (t : Bool)
        → Fine g (if_yes (take_more P k low high all t y).answer (sending k n all) nothing)
        (map (λ v. (write k (say n) all, v)) (ended_early (take_more P k low high all t y).answer)) (keeping P g (take_more P k low high all t y))
    unfolding result after ended_early take_more
    fine_more t =
        by_cond (λ (r : Reply P). Fine g (if_yes r.answer (sending k n all) nothing) (map (λ v. (write k (say n) all, v)) (ended_early r.answer)) (keeping P g r))
        (ltb high (length all)) _ _ (λ e. ((ap (write_result P) (overrun e), ap (written P g) (overrun e)), tt))
        (λ e. rw ey.goes (refl, (n, ey.seen (sending k n all) nothing, known)))

    fine_last : (o : Seen P.Key) (t : Bool) → Fine g o (map (λ v. (write k (say n) all, v)) (ended (take_part P g k low high all t true y).answer)) (take_part P g k low high all t true y)
    unfolding take_part conclude
    fine_last o t = fine_conclude g k (say n) all y ey (judged P g k low high all) whole o

  fine_write_opening : (g : P.Store) (k : P.Key) (n : Option ℕ) (bytes : List ℕ) (z : Sizes) → allowed P k (say n) ≡ z
      → Fine g (if_yes (write_opening P k bytes z).answer (sending k n bytes) nothing)
      (map (λ v. (write k (say n) bytes, v)) (ended_early (write_opening P k bytes z).answer)) (keeping P g (write_opening P k bytes z))
  unfolding result after write_whole write_opening ended_early
  fine_write_opening g k n bytes (sizes low high) e = fine_more g k n low high e bytes (write_opened (P.name_of k)) (yes_opened (P.name_of k)) false
  fine_write_opening g k n bytes (closed c) e =
      let w : write_whole P g k (say n) bytes ≡ declined c = ap (judged_by P g k (say n) bytes) e in
      ((ap (write_result P) w, ap (written P g) w), tt)

  fine_part : (g : P.Store) (x : Pending P.Key) (o : Seen P.Key) (u : Bool) (bytes : List ℕ) (last : Bool) → Tracks x o
      → Fine g (if_yes (write_part P g x u bytes last).answer (noted o bytes last) nothing) (part_done P o bytes last (write_part P g x u bytes last).answer) (write_part P g x u bytes last)
  unfolding part_done write_part noted
  fine_part g idle nothing u bytes last h = (refl, tt)
  fine_part g idle (sending k n sent) u bytes true h = (refl, tt)
  fine_part g idle (sending k n sent) u bytes false h = (refl, tt)
  fine_part g (reading k held p t) nothing u bytes last h = (refl, tt)
  fine_part g (reading k held p t) (sending k' n sent) u bytes true h = (refl, tt)
  fine_part g (reading k held p t) (sending k' n sent) u bytes false h = (refl, tt)
  fine_part g (writing k low high sent t) o u bytes last h = rw h.1 (by_cond (Parted h.0 last) (beq t u) (take_part P g k low high (sent ++ bytes) (not t) last (part_taken t)) _ (λ _. go last) (λ _. no_part last))
    where
      Parted : Option ℕ → Bool → Served P → Type 0
      Parted n l s = Fine g (if_yes s.answer (noted (sending k n sent) bytes l) nothing) (part_done P (sending k n sent) bytes l s.answer) s

      go : (l : Bool) → Parted h.0 l (take_part P g k low high (sent ++ bytes) (not t) l (part_taken t))
      go true =
          fine_last g k h.0 low high h.2 (sent ++ bytes) (part_taken t) (yes_taken t)
          (if_yes (take_part P g k low high (sent ++ bytes) (not t) true (part_taken t)).answer nothing nothing) (not t)
      go false = fine_more g k h.0 low high h.2 (sent ++ bytes) (part_taken t) (yes_taken t) (not t)

      no_part : (l : Bool) → Parted h.0 l (keeping P g (over P (dropped (P.name_of k) toggle_code)))
      no_part true = (refl, tt)
      no_part false = (refl, tt)

  -- ONE MESSAGE: the place holds what the plain gauge gives there, and what the client remembers fits what is left
  fine : (form : Form) (g : P.Store) (x : Pending P.Key) (o : Seen P.Key) (a : Request P.Key) (f : List ℕ → Option (List ℕ)) → Tracks x o
      → Ahead (remains (serve P form g x a).after) f
      → Fine g (note o a (serve P form g x a).answer) (finished P o a (serve P form g x a).answer f) (serve P form g x a)
  unfolding serve note finished
  fine form g x o (open_read k) f h q = fine_read_opening form g k f (P.read_whole g k) refl q
  fine form g idle o (next_part u) f h q = (refl, tt)
  fine form g (reading k bytes p t) o (next_part u) f h q =
      by_cond (λ (r : Reply P). Fine g nothing none (keeping P g r)) (beq t u) (give_part P form k bytes p t) _
      (λ _. by_cond (λ (r : Reply P). Fine g nothing none (keeping P g r)) (leb (length bytes) (p + form.size)) _ _ (λ _. (refl, tt)) (λ _. (refl, tt))) (λ _. (refl, tt))
  fine form g (writing k low high sent t) o (next_part u) f h q = (refl, tt)
  fine form g x o (expedited k s bytes) f h q =
      fine_conclude g k s bytes (write_opened (P.name_of k)) (yes_opened (P.name_of k)) (write_whole P g k s bytes) refl nothing
  fine form g x o (open_write k n bytes) f h q = fine_write_opening g k n bytes (allowed P k (say n)) refl
  fine form g x o (send_part u bytes last) f h q = fine_part g x o u bytes last h
  fine form g x o give_up f h q = (refl, tt)
  fine form g x o unknown f h q = (refl, tt)

  -- ---- one operation after the other

  -- a list of finished operations agrees with the plain gauge from g to g'
  Agrees : P.Store → List (Done P) → P.Store → Type 0
  Agrees g [] g' = g ≡ g'
  Agrees g (d ∷ ds) g' = (result P g d.0 ≡ d.1) × Agrees (after P g d.0) ds g'

  agrees_placed : (g g₁ g' : P.Store) (d : Option (Done P)) (ds : List (Done P)) → Next g d g₁ → Agrees g₁ ds g' → Agrees g (placed P d ds) g'
  unfolding Agrees placed
  agrees_placed g g₁ g' none ds n q = subst (λ (x : P.Store). Agrees x ds g') (sym n) q
  agrees_placed g g₁ g' (some d) ds n q =
      let first : Agrees g (d ∷ ds) g' = (n.0, subst (λ (x : P.Store). Agrees x ds g') (sym n.1) q) in
      first

  agrees_results : (ds : List (Done P)) (g g' : P.Store) → Agrees g ds g' → results P g (ops_of P ds) ≡ got_of P ds
  unfolding Agrees results
  agrees_results [] g g' h = refl
  agrees_results (d ∷ ds) g g' h = ap₂ ◌∷◌ h.0 (agrees_results ds (after P g d.0) g' h.1)

  agrees_end : (ds : List (Done P)) (g g' : P.Store) → Agrees g ds g' → end_of P g (ops_of P ds) ≡ g'
  unfolding Agrees end_of
  agrees_end [] g g' h = h
  agrees_end (d ∷ ds) g g' h = agrees_end ds (after P g d.0) g' h.1

  kept_along : (I : P.Store → Type 0) → ((g : P.Store) (o : Op P) → I g → I (after P g o)) → (os : List (Op P)) (g : P.Store) → I g → I (end_of P g os)
  unfolding end_of
  kept_along I h [] g i = i
  kept_along I h (o ∷ os) g i = kept_along I h os (after P g o) (h g o i)

-- ---- all lines

module _ (S : Setup) where
  abbrev P : Gauge
  P = S.gauge

  abbrev W : Wires (Pending P.Key) idle
  W = S.wires

  -- after a message on l: line l has what is left, another line what it had or nothing
  pub own_line : (ls : W.Lines) (l : W.Line) (a : After P.Key) → W.at (leave S ls l a) l ≡ remains a
  own_line ls l (kept x) = W.at_same ls l x
  own_line ls l wiped = W.at_clear l

  pub other_line : (ls : W.Lines) (l m : W.Line) (a : After P.Key) → m ≢ l → (W.at (leave S ls l a) m ≡ W.at ls m) ⊎ (W.at (leave S ls l a) m ≡ idle)
  other_line ls l m (kept x) d = inl (W.at_other ls l m x d)
  other_line ls l m wiped d = inr (W.at_clear m)

  -- WHAT LIES AHEAD OF A READ, whatever the other lines do: nothing, or just the bytes held
  ahead : (es : List (Event S)) (b : Board S) (l : W.Line) → Ahead (W.at b.lines l) (follow S l (trace S b es))
  unfolding trace follow step
  ahead [] b l = dead (W.at b.lines l) (λ acc. none) (λ acc. refl)
  ahead (sample s ∷ es) b l = ahead es (record { store = P.sampled b.store s; lines = b.lines }) l
  ahead (message m a ∷ es) b l = go (W.same l m) (ahead es b' l)
    where
      x : Pending P.Key
      x = W.at b.lines l

      s : Served P
      s = serve P (S.speech m).form b.store (W.at b.lines m) a

      b' : Board S
      b' = record { store = s.store; lines = leave S b.lines m s.after }

      f : List ℕ → Option (List ℕ)
      f = follow S l (trace S b' es)

      other : (W.at b'.lines l ≡ x) ⊎ (W.at b'.lines l ≡ idle) → Ahead (W.at b'.lines l) f → Ahead x f
      other (inl e) q = subst (λ (y : Pending P.Key). Ahead y f) e q
      other (inr e) q = dead x f (subst (λ (y : Pending P.Key). Ahead y f) e q)

      mine : l ≡ m → Ahead (W.at b'.lines l) f → Ahead x (λ acc. onward (gain a s.answer) acc f)
      mine e q =
          subst (λ (y : Pending P.Key). Ahead y (λ acc. onward (gain a s.answer) acc f)) (sym (ap (W.at b.lines) e))
          (own_ahead P (S.speech m).form b.store (W.at b.lines m) a f
          (subst (λ (y : Pending P.Key). Ahead y f) (ap (W.at b'.lines) e ∙ own_line b.lines m s.after) q))

      go : (d : Dec (l ≡ m)) → Ahead (W.at b'.lines l) f → Ahead x (λ acc. if_same d (onward (gain a s.answer) acc f) (f acc))
      go (yes e) q = mine e q
      go (no e) q = other (other_line b.lines m l s.after e) q

  -- THE INVARIANT: on each line, what the client remembers of a write is what the board has of it
  Inv : Board S → Seens S → Type 0
  Inv b os = (l : W.Line) → Tracks P (W.at b.lines l) (os l)

  inv_message : (b : Board S) (os : Seens S) (l : W.Line) (g : P.Store) (a : After P.Key) (o : Seen P.Key) → Inv b os → Tracks P (remains a) o
      → Inv (record { store = g; lines = leave S b.lines l a }) (put_at W.same os l o)
  unfolding Inv put_at
  inv_message b os l g a o h q m = go (W.same m l)
    where
      ls : W.Lines
      ls = leave S b.lines l a

      go : (d : Dec (m ≡ l)) → Tracks P (W.at ls m) (if_same d o (os m))
      go (yes e) = subst (λ (x : Pending P.Key). Tracks P x o) (sym (ap (W.at ls) e ∙ own_line b.lines l a)) q
      go (no e) = kept_or (other_line b.lines l m a e)
        where
          kept_or : (W.at ls m ≡ W.at b.lines m) ⊎ (W.at ls m ≡ idle) → Tracks P (W.at ls m) (os m)
          kept_or (inl c) = subst (λ (x : Pending P.Key). Tracks P x (os m)) (sym c) (h m)
          kept_or (inr c) = subst (λ (x : Pending P.Key). Tracks P x (os m)) (sym c) tt

  agrees : (es : List (Event S)) (b : Board S) (os : Seens S) → Inv b os
      → Agrees P b.store (observe S (trace S b es) os) (run S b es).store
  unfolding trace observe run step Agrees after result Inv
  agrees [] b os h = refl
  agrees (sample s ∷ es) b os h = (refl, agrees es (record { store = P.sampled b.store s; lines = b.lines }) os h)
  agrees (message l a ∷ es) b os h =
      agrees_placed P b.store s.store (run S b' es).store (finished P (os l) a s.answer f) (observe S (trace S b' es) os')
      now.0 (agrees es b' os' (inv_message b os l s.store s.after (note (os l) a s.answer) h now.1))
    where
      s : Served P
      s = serve P (S.speech l).form b.store (W.at b.lines l) a

      b' : Board S
      b' = record { store = s.store; lines = leave S b.lines l s.after }

      os' : Seens S
      os' = put_at W.same os l (note (os l) a s.answer)

      f : List ℕ → Option (List ℕ)
      f = follow S l (trace S b' es)

      now : Fine P b.store (note (os l) a s.answer) (finished P (os l) a s.answer f) s
      now =
          fine P (S.speech l).form b.store (W.at b.lines l) (os l) a f (h l)
          (subst (λ (y : Pending P.Key). Ahead y f) (own_line b.lines l s.after) (ahead es b' l))

  -- ---- the promise

  inv_start : (g : P.Store) → Inv (start S g) (fresh S)
  unfolding Inv
  inv_start g l = subst (λ (x : Pending P.Key). Tracks P x nothing) (sym (W.at_clear l)) tt

  -- THEOREM: for every list of events, from power-up
  pub serial : (g : P.Store) (es : List (Event S)) → Serial S g es
  serial g es =
      let h : Agrees P g (done_in S g es) (run S (start S g) es).store = agrees es (start S g) (fresh S) (inv_start g) in
      record {
        same_results = agrees_results P (done_in S g es) g (run S (start S g) es).store h;
        same_end = agrees_end P (done_in S g es) g (run S (start S g) es).store h;
      }

  -- whatever every whole operation keeps, any mix of messages and samples keeps
  pub keeps : (I : P.Store → Type 0) → ((g : P.Store) (o : Op P) → I g → I (after P g o))
      → (g : P.Store) (es : List (Event S)) → I g → I (run S (start S g) es).store
  keeps I h g es i = subst I (serial g es).same_end (kept_along P I h (ops_of P (done_in S g es)) g i)
