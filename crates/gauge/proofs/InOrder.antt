-- WHOLE READS AND WRITES ARE REFUSED IN ORDER: by the first of the named tests that fails, and by nothing else. Assumes nothing.
use mathlib.Core.Path.{◌≡◌, refl, sym, ap, ◌∙◌}
use mathlib.Core.Bool.{Bool, true, false, cond}
use mathlib.Core.List.{List, [], ◌∷◌, ◌++◌}
use mathlib.Core.Option.{Option, none, some}
use Prim.Native.Nat.{ℕ, zero, suc, ◌<◌}
use native.Mathlib.Nat.{le_of_suc-le-suc, not-suc-le-zero}
use native.Mathlib.Omega.{arith}
use lib.Dec.{ltb}
use lib.ListN.{length, get_or}
use Rattle.order.specs.Talk.{Said, announced, unsaid, own, Sizes, sizes, closed, Outcome, declined}
use Rattle.order.specs.Gauge.{Gauge, too_long, too_short, narrowed, narrow, counted, by_length, judged, judged_by, write_whole}
use Rattle.table.specs.Find.{Found, find_row}
use Rattle.table.specs.Row.{smallest, largest}
use Rattle.limits.specs.Limits.{verdict_code}
use Rattle.gauge.specs.Memory.{Memory, Store}
use Rattle.gauge.specs.Checks.{Asked, asked, asked_key, row_asked, sent, least, most, Test, no_such_index, no_such_subindex, only_written, only_read, announced_long, announced_short, sent_long, sent_short, under_lock, no_number, too_high, too_low, crossed_1, crossed_2, code_of, says_above, says_below, fails, key_order, length_order, last_order, write_order, refused_by, unless_refused, code_told}
use Rattle.gauge.specs.Whole.{read_whole, sizes_checked, write_sizes, effect, write_by, with_trips, commit_whole, write_checked}

-- ---- the first that fails

-- the stated test does fail, and each test before it passes
pub record First (a : Asked) (ts : List Test) (t : Test) : Type 0 where
  pub earlier : List Test
  pub later : List Test
  pub split : ts ≡ earlier ++ (t ∷ later)
  pub here : fails t a ≡ true
  pub before : refused_by a earlier ≡ none

-- no test has the code 0
coded : (t : Test) → code_of t ≡ 0 → ⊥
unfolding code_of verdict_code
coded no_such_index e = omega arith
coded no_such_subindex e = omega arith
coded only_written e = omega arith
coded only_read e = omega arith
coded announced_long e = omega arith
coded announced_short e = omega arith
coded sent_long e = omega arith
coded sent_short e = omega arith
coded under_lock e = omega arith
coded no_number e = omega arith
coded too_high e = omega arith
coded too_low e = omega arith
coded crossed_1 e = omega arith
coded crossed_2 e = omega arith

-- and only where nothing refuses is 0 told
pub none_told : (o : Option Test) → code_told o ≡ 0 → o ≡ none
unfolding unless_refused
none_told none e = refl
none_told (some t) e = absurd (coded t e)

module _ (a : Asked) where
  pub first_fails : (ts : List Test) (t : Test) → refused_by a ts ≡ some t → First a ts t
  unfolding refused_by
  first_fails [] t e = absurd (let z : ◌≡◌ {A = ℕ} 0 1 = cc in omega arith)
  first_fails (u ∷ ts) t e = go (fails u a) refl e (first_fails ts t)
    where
      go : (b : Bool) → fails u a ≡ b → cond b (some u) (refused_by a ts) ≡ some t → (refused_by a ts ≡ some t → First a ts t) → First a (u ∷ ts) t
      go true f e next = let s : u ≡ t = cc in record { earlier = []; later = ts; split = ap (λ (x : Test). x ∷ ts) s; here = rw s at f; before = refl }
      go false f e next =
          let r = next e in
          record { earlier = u ∷ r.earlier; later = r.later; split = ap (λ (l : List Test). u ∷ l) r.split; here = r.here; before = rw f r.before }

  -- where nothing refuses, every test passes
  pub each_passes : (ts : List Test) → refused_by a ts ≡ none → (k : ℕ) → k < length ts → fails (get_or ts k no_such_index) a ≡ false
  unfolding refused_by
  each_passes [] e k h = absurd (not-suc-le-zero h)
  each_passes (t ∷ ts) e k h = go (fails t a) refl e k h (each_passes ts)
    where
      go : (b : Bool) → fails t a ≡ b → cond b (some t) (refused_by a ts) ≡ none → (k : ℕ) → k < length (t ∷ ts)
          → (refused_by a ts ≡ none → (k : ℕ) → k < length ts → fails (get_or ts k no_such_index) a ≡ false) → fails (get_or (t ∷ ts) k no_such_index) a ≡ false
      go true f e k h next = absurd (let z : ◌≡◌ {A = ℕ} 0 1 = cc in omega arith)
      go false f e zero h next = f
      go false f e (suc k) h next = next e k (le_of_suc-le-suc h)

  -- tests one after the other
  pub parted : {A : Type 0} (ts us : List Test) (refuse : ℕ → A) (done : A)
      → unless_refused (refused_by a (ts ++ us)) refuse done ≡ unless_refused (refused_by a ts) refuse (unless_refused (refused_by a us) refuse done)
  unfolding refused_by unless_refused
  parted [] us refuse done = refl
  parted (t ∷ ts) us refuse done = go (fails t a) (parted ts us refuse done)
    where
      go : (b : Bool) → unless_refused (refused_by a (ts ++ us)) refuse done ≡ unless_refused (refused_by a ts) refuse (unless_refused (refused_by a us) refuse done)
          → unless_refused (cond b (some t) (refused_by a (ts ++ us))) refuse done
          ≡ unless_refused (cond b (some t) (refused_by a ts)) refuse (unless_refused (refused_by a us) refuse done)
      go true e = refl
      go false e = e

-- ---- a whole write

-- a gauge on these definitions, whatever names its entries
module _ (K S : Type 0) (index sub : K → ℕ) (sampled : Store → S → Store) where
  abbrev pub plain_by : Gauge
  plain_by =
      record {
        Store = Store;
        Key = K;
        Name = K;
        name_of = λ k. k;
        Sample = S;
        read_whole = λ g k. read_whole g (index k) (sub k);
        write_sizes = λ k. write_sizes (index k) (sub k);
        commit = λ g k bytes. commit_whole g (index k) (sub k) bytes;
        sampled = sampled;
      }

  module _ (g : Store) (k : K) (bytes : List ℕ) where
    -- one test more in front
    step : (b : Bool) (t : Test) (o : Outcome Store) (rest : Option Test) (done : Outcome Memory)
        → o ≡ with_trips g (unless_refused rest declined done) → cond b (declined (code_of t)) o ≡ with_trips g (unless_refused (cond b (some t) rest) declined done)
    unfolding with_trips unless_refused
    step true t o rest done e = refl
    step false t o rest done e = e

    over : (s : Said) (b : Bool) (x y : Sizes) → judged_by plain_by g k s bytes (cond b x y) ≡ cond b (judged_by plain_by g k s bytes x) (judged_by plain_by g k s bytes y)
    over s true x y = refl
    over s false x y = refl

    -- the bytes sent, against the lengths allowed
    counts : (low high : ℕ) (x : List ℕ) (rest : Option Test) (done : Outcome Memory) → commit_whole g (index k) (sub k) x ≡ with_trips g (unless_refused rest declined done)
        → judged plain_by g k low high x ≡ with_trips g (unless_refused (cond (ltb high (length x)) (some sent_long) (cond (ltb (length x) low) (some sent_short) rest)) declined done)
    unfolding judged by_length code_of
    counts low high x rest done e = step (ltb high (length x)) sent_long _ _ done (step (ltb (length x) low) sent_short _ rest done e)

    -- the four tests of the length
    lengths : (low high : ℕ) (s : Said) (rest : Option Test) (done : Outcome Memory) → let x = counted s high bytes in
        commit_whole g (index k) (sub k) x ≡ with_trips g (unless_refused rest declined done)
        → judged_by plain_by g k s bytes (narrowed low high s)
        ≡ with_trips g
        (unless_refused (cond (says_above high s) (some announced_long) (cond (says_below low s) (some announced_short) (cond (ltb (most high s) (length x)) (some sent_long) (cond (ltb (length x) (least low high s)) (some sent_short) rest)))) declined done)
    unfolding narrowed by_length judged_by counted says_above says_below most least code_of
    lengths low high (announced n) rest done e =
        over (announced n) (ltb high n) (closed too_long) (cond (ltb n low) (closed too_short) (sizes n n))
        ∙ step (ltb high n) announced_long _ _ done
        (over (announced n) (ltb n low) (closed too_short) (sizes n n) ∙ step (ltb n low) announced_short _ _ done (counts n n bytes rest done e))
    lengths low high unsaid rest done e = counts low high bytes rest done e
    lengths low high own rest done e = counts high high (counted own high bytes) rest done e

    module _ (s : Said) where
      abbrev found : Found
      found = find_row (index k) (sub k)

      abbrev all_asked : Asked
      all_asked = asked found s bytes g.memory.values

      abbrev done : Outcome Memory
      done = effect (row_asked all_asked) (sent all_asked) g.memory

      -- a key that passes leaves the last checks
      committed : refused_by (asked_key found) key_order ≡ none → commit_whole g (index k) (sub k) (sent all_asked) ≡ with_trips g (unless_refused (refused_by all_asked last_order) declined done)
      unfolding commit_whole write_by unless_refused refused_by key_order last_order fails counted
      committed e = ap (with_trips g) (parted (asked found unsaid (sent all_asked) g.memory.values) key_order last_order declined done ∙ rw e)

      by_key : (o : Option Test) → refused_by (asked_key found) key_order ≡ o
          → judged_by plain_by g k s bytes (narrow (unless_refused o closed (sizes (smallest (row_asked all_asked)) (largest (row_asked all_asked)))) s)
          ≡ with_trips g (unless_refused o declined (unless_refused (refused_by all_asked (length_order ++ last_order)) declined done))
      unfolding narrow judged_by with_trips unless_refused refused_by length_order last_order fails
      by_key none e = lengths (smallest (row_asked all_asked)) (largest (row_asked all_asked)) s (refused_by all_asked last_order) done (committed e)
      by_key (some t) e = refl

      pub write_in_order : write_whole plain_by g k s bytes ≡ write_checked g all_asked
      unfolding write_whole write_sizes sizes_checked write_checked write_by write_order refused_by key_order fails
      write_in_order = by_key (refused_by (asked_key found) key_order) refl ∙ ap (with_trips g) (sym (parted all_asked key_order (length_order ++ last_order) declined done))
