-- What holds of each kind of answer holds of every answer of a gauge whose codes and lengths are sound: above all that the line's form carries it,
-- so that a client reads in it what the board meant.
use Prim.Native.Nat.{ℕ, ◌+◌, ◌≤◌, ◌<◌, min}
use native.Mathlib.Omega.{arith}
use mathlib.Core.Path.{◌≡◌, refl}
use mathlib.Core.Logic.{◌⊎◌}
use mathlib.Core.Bool.{Bool, true, false, cond, not, beq}
use mathlib.Core.List.{List, [], ◌++◌}
use lib.Dec.{ltb, leb}
use lib.ListN.{length, take, drop, length-take}
use lib.Seq.{take-length}
use borrow.Author.Tests.{leb-true, leb-false}
use Rattle.order.specs.Talk.{Said, announced, unsaid, own, Request, open_read, next_part, expedited, open_write, send_part, give_up, unknown, Answer, opened, part_given, write_opened, part_taken, refused, dropped, no_transfer, silent, Read, value, denied, Sizes, sizes, closed, Outcome, stored, restarted, declined, Pending, idle, reading, writing}
use Rattle.order.specs.Gauge.{Gauge, too_long, too_short, narrow, counted, say, judged, judged_by, allowed, write_whole}
use Rattle.order.specs.Serve.{Form, toggle_code, Reply, over, onwards, read_opening, give_part, read_part, take_more, write_opening, Served, conclude, take_part, write_part, serve}
use Rattle.order.proofs.Serial.{by_cond}
use Rattle.sdo.specs.declared.Key.{Key}
use Rattle.sdo.specs.Eight.{answer_of, Code, DropCode, Carried, short, eight}
use Rattle.sdo.specs.Long.{fits, fitting_bytes, long_form, long_answer, CarriedLong}
use Rattle.sdo.specs.Entries.{Entries, gauge, Sound}
use Rattle.sdo.proofs.Facts.{short_bounds}
use Rattle.sdo.proofs.RoundTrip.{answer-eight}
use Rattle.sdo.proofs.LongTrip.{Fitting, long_length}

long_code : Code too_long
long_code = record { fits = omega arith; not_transfer = refl; ends = refl }

short-code : Code too_short
short-code = record { fits = omega arith; not_transfer = refl; ends = refl }

drop_code : DropCode toggle_code
drop_code = record { fits = omega arith; not_transfer = refl; drops = refl }

-- ---- codes: a refused write has one, and so has an entry that is closed

unfoldable pub Coded : {S : Type 0} → Outcome S → Type 0
Coded (stored g) = Unit {0}
Coded (restarted g) = Unit {0}
Coded (declined c) = Code c

unfoldable pub CodedSizes : Sizes → Type 0
CodedSizes (sizes low high) = Unit {0}
CodedSizes (closed c) = Code c

module _ (E : Entries) (S : Sound E) where
  commit_coded : (g : E.Store) (k : Key) (bytes : List ℕ) (r : Outcome E.Store) → E.commit g k bytes ≡ r → Coded r
  unfolding Coded
  commit_coded g k bytes (stored g') e = tt
  commit_coded g k bytes (restarted g') e = tt
  commit_coded g k bytes (declined c) e = S.commit_code g k bytes c e

  judged_coded : (g : E.Store) (k : Key) (low high : ℕ) (bytes : List ℕ) → Coded (judged (gauge E) g k low high bytes)
  unfolding Coded judged
  judged_coded g k low high bytes = go (ltb high (length bytes)) (ltb (length bytes) low)
    where
      go : (d e : Bool) → Coded (cond d (declined too_long) (cond e (declined too_short) (E.commit g k bytes)))
      go true e = long_code
      go false true = short-code
      go false false = commit_coded g k bytes (E.commit g k bytes) refl

  allowed_coded : (k : Key) (s : Said) (z : Sizes) → E.write_sizes k ≡ z → CodedSizes (narrow z s)
  unfolding CodedSizes narrow
  allowed_coded k (announced n) (sizes low high) e = go (ltb high n) (ltb n low)
    where
      go : (d e : Bool) → CodedSizes (cond d (closed too_long) (cond e (closed too_short) (sizes n n)))
      go true e' = long_code
      go false true = short-code
      go false false = tt
  allowed_coded k unsaid (sizes low high) e = tt
  allowed_coded k own (sizes low high) e = tt
  allowed_coded k s (closed c) e = S.row_code k c e

  write_coded : (g : E.Store) (k : Key) (s : Said) (bytes : List ℕ) (z : Sizes) → CodedSizes z → Coded (judged_by (gauge E) g k s bytes z)
  unfolding Coded CodedSizes judged_by judged
  write_coded g k s bytes (sizes low high) c = judged_coded g k low high (counted s high bytes)
  write_coded g k s bytes (closed n) c = c

-- ---- the answers of a line with form F: what Q has to hold of

pub record Held (F : Form) (Q : Answer Key → Type 0) : Type 0 where
  pub of_opened : (k : Key) (bytes : List ℕ) → length bytes < 0x1_0000_0000 → Q (opened k (length bytes) (take (F.carried (length bytes)) bytes) (F.closes (length bytes)))
  pub of_part : (t : Bool) (bytes : List ℕ) (last : Bool) → length bytes ≤ F.size → Q (part_given t bytes last)
  pub of_write : (k : Key) → Q (write_opened k)
  pub of_taken : (t : Bool) → Q (part_taken t)
  pub of_code : (k : Key) (c : ℕ) → Code c → Q (refused k c)
  pub of_drop : (k : Key) (c : ℕ) → DropCode c → Q (dropped k c)
  pub of_none : Q no_transfer
  pub of_silence : Q silent

module _ (E : Entries) (S : Sound E) (F : Form) (Q : Answer Key → Type 0) (H : Held F Q) where
  abbrev P : Gauge
  P = gauge E

  either : (d : Bool) (r r' : Reply P) → Q r.answer → Q r'.answer → Q (cond d r r').answer
  either d r r' h h' = by_cond (λ (x : Reply P). Q x.answer) d r r' (λ _. h) (λ _. h')

  -- the answer is one term, whether it closes the read or not
  opening_held : (g : E.Store) (k : Key) (r : Read) → E.read_whole g k ≡ r → Q (read_opening P F k r).answer
  unfolding read_opening
  opening_held g k (value bytes) e = go (F.closes (length bytes)) (H.of_opened k bytes (S.value_fits g k bytes e))
    where
      begun : Bool → Answer Key
      begun d = opened k (length bytes) (take (F.carried (length bytes)) bytes) d

      go : (d : Bool) → Q (begun d) → Q (cond d (over P (begun true)) (onwards P (reading k bytes (F.carried (length bytes)) false) (begun false))).answer
      go true h = h
      go false h = h
  opening_held g k (denied c) e = H.of_code k c (S.read_code g k c e)

  part_held : (x : Pending Key) (u : Bool) → Q (read_part P F x u).answer
  unfolding read_part give_part
  part_held idle u = H.of_none
  part_held (reading k bytes p t) u =
      either (beq t u) _ _ (either (leb (length bytes) (p + F.size)) _ _ (H.of_part t _ true within) (H.of_part t _ false within)) (H.of_drop k toggle_code drop_code)
    where
      within : length (take F.size (drop p bytes)) ≤ F.size
      within = rw length-take (omega arith)
  part_held (writing k low high sent t) u = H.of_none

  more_held : (k : Key) (low high : ℕ) (all : List ℕ) (t : Bool) (y : Answer Key) → Q y → Q (take_more P k low high all t y).answer
  unfolding take_more
  more_held k low high all t y h = either (ltb high (length all)) _ _ (H.of_code k too_long long_code) h

  write-held : (k : Key) (bytes : List ℕ) (z : Sizes) → CodedSizes z → Q (write_opening P k bytes z).answer
  unfolding CodedSizes write_opening
  write-held k bytes (sizes low high) c = more_held k low high bytes false (write_opened k) (H.of_write k)
  write-held k bytes (closed n) c = H.of_code k n c

  end_held : (g : E.Store) (k : Key) (y : Answer Key) (r : Outcome E.Store) → Q y → Coded r → Q (conclude P g k y r).answer
  unfolding Coded conclude
  end_held g k y (stored g') h c = h
  end_held g k y (restarted g') h c = h
  end_held g k y (declined n) h c = H.of_code k n c

  taken-held : (g : E.Store) (k : Key) (low high : ℕ) (all : List ℕ) (t last : Bool) (y : Answer Key) → Q y → Q (take_part P g k low high all t last y).answer
  unfolding take_part
  taken-held g k low high all t true y h = end_held g k y (judged P g k low high all) h (judged_coded E S g k low high all)
  taken-held g k low high all t false y h = more_held k low high all t y h

  sent-held : (g : E.Store) (x : Pending Key) (u : Bool) (bytes : List ℕ) (last : Bool) → Q (write_part P g x u bytes last).answer
  unfolding write_part
  sent-held g idle u bytes last = H.of_none
  sent-held g (reading k held p t) u bytes last = H.of_none
  sent-held g (writing k low high sent t) u bytes last =
      by_cond (λ (s : Served P). Q s.answer) (beq t u) _ _
      (λ _. taken-held g k low high (sent ++ bytes) (not t) last (part_taken t) (H.of_taken t))
      (λ _. H.of_drop k toggle_code drop_code)

  pub answers : (g : E.Store) (x : Pending Key) (a : Request Key) → Q (serve P F g x a).answer
  unfolding serve write_whole
  answers g x (open_read k) = opening_held g k (E.read_whole g k) refl
  answers g x (next_part u) = part_held x u
  answers g x (expedited k s bytes) = end_held g k (write_opened k) (write_whole P g k s bytes) (H.of_write k) (write_coded E S g k s bytes (allowed P k s) (allowed_coded E S k s (E.write_sizes k) refl))
  answers g x (open_write k n bytes) = write-held k bytes (allowed P k (say n)) (allowed_coded E S k (say n) (E.write_sizes k) refl)
  answers g x (send_part u bytes last) = sent-held g x u bytes last
  answers g x give_up = H.of_silence
  answers g x unknown = H.of_none

-- ---- the two forms

pub held-eight : Held eight Carried
unfolding eight
held-eight =
    record {
      of_opened = λ k bytes h. carried k bytes h (short (length bytes)) (short_bounds (length bytes));
      of_part = λ t bytes last h. h;
      of_write = λ k. tt;
      of_taken = λ t. tt;
      of_code = λ k c h. h;
      of_drop = λ k c h. h;
      of_none = tt;
      of_silence = tt;
    }
  where
    carried : (k : Key) (bytes : List ℕ) → length bytes < 0x1_0000_0000 → (d : Bool) → (d ≡ true → (1 ≤ length bytes) × (length bytes ≤ 4))
        → Carried (opened k (length bytes) (take (cond d (length bytes) 0) bytes) d)
    carried k bytes h true b = rw take-length (refl, (b refl).0, (b refl).1)
    carried k bytes h false b = (refl, h)

pub held_long : Held long_form CarriedLong
unfolding long_form
held_long =
    record {
      of_opened = λ k bytes h. carried k bytes h (fits (length bytes)) (leb-true (length bytes) 112) (leb-false (length bytes) 112);
      of_part = λ t bytes last h. h;
      of_write = λ k. tt;
      of_taken = λ t. tt;
      of_code = λ k c h. h;
      of_drop = λ k c h. h;
      of_none = tt;
      of_silence = tt;
    }
  where
    carried : (k : Key) (bytes : List ℕ) → length bytes < 0x1_0000_0000 → (d : Bool) → (d ≡ true → length bytes ≤ 112) → (d ≡ false → 112 < length bytes)
        → CarriedLong (opened k (length bytes) (take (fitting_bytes (length bytes)) bytes) d)
    carried k bytes h true low high = let l : length bytes ≤ 112 = low refl in (omega (arith, length-take (min (length bytes) 112) bytes), omega (arith, length-take (min (length bytes) 112) bytes))
    carried k bytes h false low high = let l : 112 < length bytes = high refl in (omega (arith, length-take (min (length bytes) 112) bytes), l, h)

-- the bytes of every answer are eight, or none
pub spoken-eight : (E : Entries) (S : Sound E) (g : E.Store) (x : Pending Key) (a : Request Key)
    → (answer_of (serve (gauge E) eight g x a).answer ≡ []) ⊎ (length (answer_of (serve (gauge E) eight g x a).answer) ≡ 8)
spoken-eight E S g x a = answer-eight _ (answers E S eight Carried held-eight g x a)

-- in the long form 8 to 120, or none
pub spoken_long : (E : Entries) (S : Sound E) (g : E.Store) (x : Pending Key) (a : Request Key)
    → (long_answer (serve (gauge E) long_form g x a).answer ≡ []) ⊎ Fitting (long_answer (serve (gauge E) long_form g x a).answer)
spoken_long E S g x a = long_length _ (answers E S long_form CarriedLong held_long g x a)
