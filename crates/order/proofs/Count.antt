-- A read in parts ends after exactly the parts that its length asks for; a transfer that is dropped changes no value.
use Prim.Native.Nat.{ℕ, suc, ◌+◌, ◌*◌, ◌≤◌, ◌<◌}
use native.Mathlib.Omega.{arith}
use mathlib.Core.Path.{◌≡◌, refl, sym, ap, ap₂, ◌∙◌, subst}
use mathlib.Core.Logic.{◌≢◌}
use mathlib.Core.Bool.{Bool, true, false, cond, not, beq, false≢true}
use mathlib.Core.List.{List, [], ◌∷◌, ◌++◌}
use mathlib.Core.Option.{Option, none, some}
use lib.Dec.{T, ltb, leb, leb→le, nleb→lt}
use lib.ListN.{length, take, drop}
use lib.Seq.{take-add, take_all}
use Rattle.order.specs.Talk.{Request, open_read, next_part, expedited, open_write, send_part, give_up, unknown, Answer, part_given, write_opened, part_taken, dropped, Read, value, denied, Sizes, sizes, closed, Outcome, stored, restarted, declined, Pending, idle, reading, writing}
use Rattle.order.specs.Gauge.{Gauge, say, judged, allowed, write_whole}
use Rattle.order.specs.Serve.{Form, Wires, if_same, Setup, toggle_code, After, kept, wiped, remains, Reply, over, onwards, read_opening, give_part, read_part, take_more, write_opening, Served, keeping, conclude, take_part, serve, Board, Event, message, sample, leave, step, trace}
use Rattle.order.specs.Observe.{gain, if_yes, onward, follow}
use Rattle.order.specs.Promise.{ends_write, is_abort, IfSame, Spares, Right, count, Calm, Ends}
use Rattle.order.proofs.Serial.{by_cond, own_line}

beq_refl : (t : Bool) → beq t t ≡ true
beq_refl true = refl
beq_refl false = refl

-- two sides that cannot be one
not-both : {A : Type 0} → ◌≡◌ {A = Bool} false true → A
not-both e = absurd (false≢true e)

module _ (P : Gauge) where
  -- ---- a message that does not end a write with yes leaves the store alone

  still_conclude : (g : P.Store) (k : P.Key) (y : Answer P.Name) (r : Outcome P.Store) → if_yes y true false ≡ true
      → if_yes (conclude P g k y r).answer true false ≡ false → (conclude P g k y r).store ≡ g
  unfolding conclude
  still_conclude g k y (stored g') ey h = cc
  still_conclude g k y (restarted g') ey h = cc
  still_conclude g k y (declined c) ey h = refl

  still_part : (g : P.Store) (k : P.Key) (low high : ℕ) (all : List ℕ) (t t' u : Bool) (bytes : List ℕ) (last d : Bool) (r : Reply P)
      → ends_write {K = P.Key} (send_part u bytes last) (cond d (take_part P g k low high all t last (part_taken t')) (keeping P g r)).answer ≡ false
      → (cond d (take_part P g k low high all t last (part_taken t')) (keeping P g r)).store ≡ g
  unfolding take_part if_yes ends_write
  still_part g k low high all t t' u bytes true true r h = still_conclude g k (part_taken t') (judged P g k low high all) refl h
  still_part g k low high all t t' u bytes false true r h = refl
  still_part g k low high all t t' u bytes last false r h = refl

  -- THEOREM: dropped, refused or under way, nothing changes
  pub untouched : (form : Form) (g : P.Store) (x : Pending P.Key) (a : Request P.Key)
      → ends_write a (serve P form g x a).answer ≡ false → (serve P form g x a).store ≡ g
  unfolding serve if_yes ends_write
  untouched form g x (open_read k) h = refl
  untouched form g x (next_part u) h = refl
  untouched form g x (expedited k s bytes) h = still_conclude g k (write_opened (P.name_of k)) (write_whole P g k s bytes) refl h
  untouched form g x (open_write k n bytes) h = refl
  untouched form g idle (send_part u bytes last) h = refl
  untouched form g (reading k held p t) (send_part u bytes last) h = refl
  untouched form g (writing k low high sent t) (send_part u bytes last) h = still_part g k low high (sent ++ bytes) (not t) t u bytes last (beq t u) _ h
  untouched form g x give_up h = refl
  untouched form g x unknown h = refl

  -- ---- an abort drops the line's transfer and changes nothing

  -- what a reply that is an abort leaves
  abbrev Ended : Reply P → Type 0
  Ended r = is_abort r.answer ≡ true → r.next ≡ idle

  ended-read_opening : (form : Form) (k : P.Key) (r : Read) → Ended (read_opening P form k r)
  unfolding read_opening is_abort
  ended-read_opening form k (value bytes) = by_cond Ended (form.closes (length bytes)) _ _ (λ _. not-both) (λ _. not-both)
  ended-read_opening form k (denied c) = λ e. refl

  ended-read_part : (form : Form) (x : Pending P.Key) (u : Bool) → Ended (read_part P form x u)
  unfolding read_part is_abort
  ended-read_part form idle u = λ e. refl
  ended-read_part form (reading k bytes p t) u =
      by_cond Ended (beq t u) (give_part P form k bytes p t) (over P (dropped (P.name_of k) toggle_code)) (λ _. by_cond Ended (leb (length bytes) (p + form.size)) _ _ (λ _. not-both) (λ _. not-both)) (λ _ e. refl)
  ended-read_part form (writing k low high sent t) u = λ e. refl

  ended_more : (k : P.Key) (low high : ℕ) (all : List ℕ) (t : Bool) (y : Answer P.Name) → is_abort y ≡ false → Ended (take_more P k low high all t y)
  unfolding take_more
  ended_more k low high all t y n = by_cond Ended (ltb high (length all)) _ _ (λ _ e. refl) (λ _ e. not-both (sym n ∙ e))

  ended-write_opening : (k : P.Key) (bytes : List ℕ) (z : Sizes) → Ended (write_opening P k bytes z)
  unfolding write_opening is_abort
  ended-write_opening k bytes (sizes low high) = ended_more k low high bytes false (write_opened (P.name_of k)) refl
  ended-write_opening k bytes (closed c) = λ e. refl

  -- what a message whose answer is an abort comes to
  abbrev pub Dropped : P.Store → Served P → Type 0
  Dropped g s = is_abort s.answer ≡ true → s ≡ keeping P g (over P s.answer)

  dropped_reply : (g : P.Store) (r : Reply P) → Ended r → Dropped g (keeping P g r)
  dropped_reply g r h e = ap (λ (x : Pending P.Key). record { store = g; after = kept x; answer = r.answer }) (h e)

  dropped-conclude : (g : P.Store) (k : P.Key) (y : Answer P.Name) (r : Outcome P.Store) → is_abort y ≡ false → Dropped g (conclude P g k y r)
  unfolding conclude
  dropped-conclude g k y (stored g') n = λ e. not-both (sym n ∙ e)
  dropped-conclude g k y (restarted g') n = λ e. not-both (sym n ∙ e)
  dropped-conclude g k y (declined c) n = λ e. refl

  dropped-part : (g : P.Store) (k : P.Key) (low high : ℕ) (all : List ℕ) (t last : Bool) (y : Answer P.Name) → is_abort y ≡ false → Dropped g (take_part P g k low high all t last y)
  unfolding take_part
  dropped-part g k low high all t true y n = dropped-conclude g k y (judged P g k low high all) n
  dropped-part g k low high all t false y n = dropped_reply g _ (ended_more k low high all t y n)

  -- THEOREM: every abort drops its transfer (R6.2) and leaves the store as it was (R7.10)
  pub aborts_drop : (form : Form) (g : P.Store) (x : Pending P.Key) (a : Request P.Key) → Dropped g (serve P form g x a)
  unfolding serve is_abort
  aborts_drop form g x (open_read k) = dropped_reply g _ (ended-read_opening form k (P.read_whole g k))
  aborts_drop form g x (next_part u) = dropped_reply g _ (ended-read_part form x u)
  aborts_drop form g x (expedited k s bytes) = dropped-conclude g k (write_opened (P.name_of k)) (write_whole P g k s bytes) refl
  aborts_drop form g x (open_write k n bytes) = dropped_reply g _ (ended-write_opening k bytes (allowed P k (say n)))
  aborts_drop form g idle (send_part u bytes last) = λ e. refl
  aborts_drop form g (reading k held p t) (send_part u bytes last) = λ e. refl
  aborts_drop form g (writing k low high sent t) (send_part u bytes last) =
      by_cond (Dropped g) (beq t u) _ _ (λ _. dropped-part g k low high (sent ++ bytes) (not t) last (part_taken t) refl) (λ _ e. refl)
  aborts_drop form g x give_up = λ e. refl
  aborts_drop form g x unknown = λ e. refl

-- ---- the count of parts

module _ (S : Setup) (l : S.wires.Line) (k : S.gauge.Key) (bytes : List ℕ) where
  abbrev P : Gauge
  P = S.gauge

  abbrev W : Wires (Pending P.Key) idle
  W = S.wires

  spared : (ls : W.Lines) (m : W.Line) (a : After P.Key) → l ≢ m → Spares a → W.at (leave S ls m a) l ≡ W.at ls l
  spared ls m (kept x) d c = W.at_other ls m l x d
  spared ls m wiped d c = absurd c

  -- THEOREM
  pub ends : (es : List (Event S)) (b : Board S) (p : ℕ) (t : Bool) → W.at b.lines l ≡ reading k bytes p t → p < length bytes
      → Right S l es t → Calm S b es → Ends S l bytes p b es
  unfolding trace follow step serve
  ends [] b p t x h r c = record { at_last = λ q. absurd (omega arith); not_before = λ q. refl }
  ends (sample s ∷ es) b p t x h r c =
      let i : Ends S l bytes p (record { store = P.sampled b.store s; lines = b.lines }) es = ends es (record { store = P.sampled b.store s; lines = b.lines }) p t x h r c in
      record { at_last = i.at_last; not_before = i.not_before }
  ends (message m a ∷ es) b p t x h r c =
      let w : Goal (W.same l m) = go (W.same l m) r (λ p' t' x' h' r'. ends es b' p' t' x' h' r' c.1) in
      record { at_last = w.0; not_before = w.1 }
    where
      s : Served P
      s = serve P (S.speech m).form b.store (W.at b.lines m) a

      b' : Board S
      b' = record { store = s.store; lines = leave S b.lines m s.after }

      f : List ℕ → Option (List ℕ)
      f = follow S l (trace S b' es)

      n : ℕ
      n = (S.speech l).form.size

      Goal : Dec (l ≡ m) → Type 0
      Goal d =
          (length bytes ≤ p + if_same d (suc (count S l es)) (count S l es) * n → if_same d (onward (gain a s.answer) (take p bytes) f) (f (take p bytes)) ≡ some bytes)
          × (p + if_same d (suc (count S l es)) (count S l es) * n < length bytes → if_same d (onward (gain a s.answer) (take p bytes) f) (f (take p bytes)) ≡ none)

      Ih : Type 0
      Ih = (p' : ℕ) (t' : Bool) → W.at b'.lines l ≡ reading k bytes p' t' → p' < length bytes → Right S l es t' → Ends S l bytes p' b' es

      s_is : l ≡ m → a ≡ next_part t → s ≡ keeping P b.store (give_part P (S.speech l).form k bytes p t)
      s_is e ea =
          ap (λ (y : W.Line). serve P (S.speech y).form b.store (W.at b.lines y) a) (sym e) ∙ ap₂ (λ (y : Pending P.Key) (z : Request P.Key). serve P (S.speech l).form b.store y z) x ea
          ∙ ap (λ (d : Bool). keeping P b.store (cond d (give_part P (S.speech l).form k bytes p t) (over P (dropped (P.name_of k) toggle_code)))) (beq_refl t)

      tell_is : (u : Answer P.Name) → a ≡ next_part t → s.answer ≡ u → onward (gain a s.answer) (take p bytes) f ≡ onward (gain {K = P.Key} (next_part t) u) (take p bytes) f
      tell_is u ea e = ap₂ (λ (y : Request P.Key) (z : Answer P.Name). onward (gain y z) (take p bytes) f) ea e

      -- the next part: it is the last, or the read goes on with the other toggle
      last_one : Reply P
      last_one = over P (part_given t (take n (drop p bytes)) true)

      one_more : Reply P
      one_more = onwards P (reading k bytes (p + n) (not t)) (part_given t (take n (drop p bytes)) false)

      mine : (e : l ≡ m) → a ≡ next_part t → Right S l es (not t) → Ih → Goal (yes e)
      mine e ea r' ih =
          by_cond (λ (r : Reply P). s ≡ keeping P b.store r → Goal (yes e)) (leb (length bytes) (p + n)) last_one one_more
          (λ ed es'.
          let q : length bytes ≤ p + n = leb→le (length bytes) (p + n) (subst T (sym ed) tt) in (
            (λ _. tell_is _ ea (ap (λ (y : Served P). y.answer) es') ∙ ap some (sym (take-add p n bytes) ∙ take_all (p + n) bytes q)),
            λ z. absurd (omega arith),
          ))
          (λ ed es'.
          let q : p + n < length bytes = nleb→lt (length bytes) (p + n) (subst (λ (y : Bool). T (not y)) (sym ed) tt) in
          let x' : W.at b'.lines l ≡ reading k bytes (p + n) (not t) = ap (W.at b'.lines) e ∙ own_line S b.lines m s.after ∙ ap (λ (y : Served P). remains y.after) es' in
          let i : Ends S l bytes (p + n) b' es = ih (p + n) (not t) x' q r' in
          let on : onward (gain a s.answer) (take p bytes) f ≡ f (take (p + n) bytes) = tell_is _ ea (ap (λ (y : Served P). y.answer) es') ∙ ap f (sym (take-add p n bytes)) in
          ((λ z. on ∙ i.at_last (omega arith)), λ z. on ∙ i.not_before (omega arith)))
          (s_is e ea)

      go : (d : Dec (l ≡ m)) → IfSame d ((a ≡ next_part t) × Right S l es (not t)) (Right S l es t) → Ih → Goal d
      go (yes e) r' ih = mine e r'.0 r'.1 ih
      go (no e) r' ih =
          let i : Ends S l bytes p b' es = ih p t (spared b.lines m s.after e c.0 ∙ x) h r' in
          (i.at_last, i.not_before)
