-- Every request but the client's abort is answered. Assumes nothing.
use Prim.Native.Nat.{ℕ, ◌+◌}
use mathlib.Core.Bool.{Bool, true, false, cond, not, beq}
use mathlib.Core.List.{List, ◌++◌}
use lib.Dec.{ltb, leb}
use lib.ListN.{length}
use Rattle.order.specs.Talk.{Request, open_read, next_part, expedited, open_write, send_part, give_up, unknown, Answer, opened, part_given, write_opened, part_taken, refused, dropped, no_transfer, silent, Read, value, denied, Sizes, sizes, closed, Outcome, stored, restarted, declined, Pending, idle, reading, writing}
use Rattle.order.specs.Gauge.{Gauge, say, judged, allowed, write_whole}
use Rattle.order.specs.Serve.{Form, toggle_code, Reply, over, read_opening, give_part, read_part, take_more, write_opening, keeping, conclude, take_part, write_part, serve}
use Rattle.order.proofs.Serial.{by_cond}

-- any but the client's abort (R5.9)
unfoldable pub Awaits : {K : Type 0} → Request K → Type 0
Awaits (open_read k) = Unit {0}
Awaits (next_part u) = Unit {0}
Awaits (expedited k s bytes) = Unit {0}
Awaits (open_write k n bytes) = Unit {0}
Awaits (send_part u bytes last) = Unit {0}
Awaits give_up = ⊥
Awaits unknown = Unit {0}

unfoldable pub Given : {N : Type 0} → Answer N → Type 0
Given (opened k n bytes all) = Unit {0}
Given (part_given u bytes last) = Unit {0}
Given (write_opened k) = Unit {0}
Given (part_taken u) = Unit {0}
Given (refused k c) = Unit {0}
Given (dropped k c) = Unit {0}
Given no_transfer = Unit {0}
Given silent = ⊥

-- any but a read's and the client's abort
unfoldable pub NoRead : {K : Type 0} → Request K → Type 0
NoRead (open_read k) = ⊥
NoRead (next_part u) = ⊥
NoRead (expedited k s bytes) = Unit {0}
NoRead (open_write k n bytes) = Unit {0}
NoRead (send_part u bytes last) = Unit {0}
NoRead give_up = ⊥
NoRead unknown = Unit {0}

-- what all answers to these have
pub record Has {N : Type 0} (Q : Answer N → Type 0) : Type 0 where
  pub of_yes : (k : N) → Q (write_opened k)
  pub of_part : (u : Bool) → Q (part_taken u)
  pub of_code : (k : N) (c : ℕ) → Q (refused k c)
  pub of_drop : (k : N) (c : ℕ) → Q (dropped k c)
  pub of_none : Q no_transfer

module _ (P : Gauge) (Q : Answer P.Name → Type 0) (H : Has Q) where
  either : (d : Bool) (r r' : Reply P) → Q r.answer → Q r'.answer → Q (cond d r r').answer
  either d r r' h h' = by_cond (λ (x : Reply P). Q x.answer) d r r' (λ _. h) (λ _. h')

  more_has : (k : P.Key) (low high : ℕ) (all : List ℕ) (t : Bool) (y : Answer P.Name) → Q y → Q (take_more P k low high all t y).answer
  unfolding take_more
  more_has k low high all t y h = either (ltb high (length all)) _ _ (H.of_code _ _) h

  opening_has : (k : P.Key) (bytes : List ℕ) (z : Sizes) → Q (write_opening P k bytes z).answer
  unfolding write_opening
  opening_has k bytes (sizes low high) = more_has k low high bytes false (write_opened (P.name_of k)) (H.of_yes _)
  opening_has k bytes (closed c) = H.of_code _ c

  end_has : (g : P.Store) (k : P.Key) (y : Answer P.Name) (o : Outcome P.Store) → Q y → Q (conclude P g k y o).answer
  unfolding conclude
  end_has g k y (stored g') h = h
  end_has g k y (restarted g') h = h
  end_has g k y (declined c) h = H.of_code _ c

  part-has : (g : P.Store) (k : P.Key) (low high : ℕ) (all : List ℕ) (t last : Bool) (y : Answer P.Name) → Q y → Q (take_part P g k low high all t last y).answer
  unfolding take_part
  part-has g k low high all t true y h = end_has g k y (judged P g k low high all) h
  part-has g k low high all t false y h = more_has k low high all t y h

  sent-has : (g : P.Store) (x : Pending P.Key) (u : Bool) (bytes : List ℕ) (last : Bool) → Q (write_part P g x u bytes last).answer
  unfolding write_part
  sent-has g idle u bytes last = H.of_none
  sent-has g (reading k held p t) u bytes last = H.of_none
  sent-has g (writing k low high sent t) u bytes last = go (beq t u)
    where
      go : (d : Bool) → Q (cond d (take_part P g k low high (sent ++ bytes) (not t) last (part_taken t)) (keeping P g (over P (dropped (P.name_of k) toggle_code)))).answer
      go true = part-has g k low high (sent ++ bytes) (not t) last (part_taken t) (H.of_part t)
      go false = H.of_drop _ _

  pub no_read_has : (F : Form) (g : P.Store) (x : Pending P.Key) (a : Request P.Key) → NoRead a → Q (serve P F g x a).answer
  unfolding serve NoRead
  no_read_has F g x (open_read k) w = absurd w
  no_read_has F g x (next_part u) w = absurd w
  no_read_has F g x (expedited k s bytes) w = end_has g k (write_opened (P.name_of k)) (write_whole P g k s bytes) (H.of_yes _)
  no_read_has F g x (open_write k n bytes) w = opening_has k bytes (allowed P k (say n))
  no_read_has F g x (send_part u bytes last) w = sent-has g x u bytes last
  no_read_has F g x give_up w = absurd w
  no_read_has F g x unknown w = H.of_none

given_has : {N : Type 0} → Has {N = N} Given
unfolding Given
given_has = record { of_yes = λ k. tt; of_part = λ u. tt; of_code = λ k c. tt; of_drop = λ k c. tt; of_none = tt }

module _ (P : Gauge) where
  abbrev both : (d : Bool) (r r' : Reply P) → Given r.answer → Given r'.answer → Given (cond d r r').answer
  both = either P Given given_has

  read_answers : (F : Form) (k : P.Key) (r : Read) → Given (read_opening P F k r).answer
  unfolding read_opening Given
  read_answers F k (value bytes) = both (F.closes (length bytes)) _ _ tt tt
  read_answers F k (denied c) = tt

  part_answers : (F : Form) (x : Pending P.Key) (u : Bool) → Given (read_part P F x u).answer
  unfolding read_part give_part Given
  part_answers F idle u = tt
  part_answers F (reading k bytes p t) u = both (beq t u) _ _ (both (leb (length bytes) (p + F.size)) _ _ tt tt) tt
  part_answers F (writing k low high sent t) u = tt

  pub answers : (F : Form) (g : P.Store) (x : Pending P.Key) (a : Request P.Key) → Awaits a → Given (serve P F g x a).answer
  unfolding serve Awaits NoRead
  answers F g x (open_read k) w = read_answers F k (P.read_whole g k)
  answers F g x (next_part u) w = part_answers F x u
  answers F g x (expedited k s bytes) w = no_read_has P Given given_has F g x (expedited k s bytes) tt
  answers F g x (open_write k n bytes) w = no_read_has P Given given_has F g x (open_write k n bytes) tt
  answers F g x (send_part u bytes last) w = no_read_has P Given given_has F g x (send_part u bytes last) tt
  answers F g x give_up w = absurd w
  answers F g x unknown w = no_read_has P Given given_has F g x unknown tt
