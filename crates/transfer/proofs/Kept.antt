-- What a message leaves is a transfer that the line's record can hold, in any form: `transfers` keeps the transfers of any lines, however they speak.
use Prim.Native.Nat.{ℕ, ◌+◌, ◌≤◌, ◌<◌}
use native.Mathlib.Omega.{arith}
use mathlib.Core.Path.{◌≡◌, refl}
use mathlib.Core.Logic.{◌⊎◌}
use mathlib.Core.Bool.{Bool, true, false, cond, not, beq}
use mathlib.Core.List.{List, ◌++◌}
use lib.Dec.{T, ltb, leb, nleb→lt, nltb→le}
use lib.ListN.{length, get_or}
use Rattle.order.specs.Talk.{Said, announced, unsaid, own, Request, open_read, next_part, expedited, open_write, send_part, give_up, unknown, Answer, write_opened, part_taken, dropped, Read, value, denied, Sizes, sizes, closed, Outcome, stored, restarted, declined, Pending, idle, reading, writing}
use Rattle.order.specs.Gauge.{Gauge, too_long, too_short, narrow, counted, say, judged, judged_by, allowed, write_whole}
use Rattle.order.specs.Serve.{Form, Speech, Wires, Setup, toggle_code, remains, Reply, over, read_opening, give_part, read_part, take_more, write_opening, keeping, conclude, take_part, write_part, serve}
use Rattle.order.specs.Keep.{speak, Again, Keeps}
use Rattle.order.proofs.Kept.{abort_drops}
use Rattle.sdo.specs.declared.Key.{Key}
use Rattle.sdo.specs.Eight.{ask_of, eight, eight_bytes}
use Rattle.sdo.specs.Entries.{Entries, gauge}
use Rattle.sdo.proofs.RoundTrip.{abort_told}
use Rattle.transfer.specs.declared.Direction.TheVariants.{Reads, Writes}
use Rattle.transfer.specs.declared.Transfer.{Transfer}
use Rattle.transfer.specs.Records.{zero_record, row_of, RowOf, counts, view, base, lay, transfers, GoodAfter, Rows}
use Rattle.transfer.proofs.RecordLaws.{Fits, row_fits, fits-row, Valid, view_zero, view-lay, Whole, valid-view, whole-lay, whole-base, lay-served}

module _ (E : Entries) {Good : E.Store → Type 0} (R : Rows E Good) where
  abbrev P : Gauge
  P = gauge E

  -- the sizes that an opening leaves: the row's length twice
  SizedFor : Key → Sizes → Type 0
  SizedFor k (sizes low high) = (low ≡ high) × RowOf Writes k high
  SizedFor k (closed c) = Unit {0}

  sized : (k : Key) (s : Said) (z : Sizes) → E.write_sizes k ≡ z → SizedFor k (narrow z s)
  unfolding SizedFor narrow
  sized k unsaid (sizes low high) e = R.write_row k low high e
  sized k own (sizes low high) e = (refl, (R.write_row k low high e).1)
  sized k (announced n) (sizes low high) e = go (ltb high n) (ltb n low) (nltb→le high n) (nltb→le n low)
    where
      w : (low ≡ high) × RowOf Writes k high
      w = R.write_row k low high e

      go : (d c : Bool) → (T (not d) → n ≤ high) → (T (not c) → low ≤ n) → SizedFor k (cond d (closed too_long) (cond c (closed too_short) (sizes n n)))
      go true c p q = tt
      go false true p q = tt
      go false false p q =
          let a : n ≤ high = p tt in
          let b : low ≤ n = q tt in
          let m : n ≡ high = omega (arith, w.0) in
          (refl, rw m w.1)
  sized k s (closed c) e = tt

  abbrev opens : (k : Key) (s : Said) → SizedFor k (allowed P k s)
  opens k s = sized k s (E.write_sizes k) refl

  module _ (F : Form) where
    -- ---- what is left after a message is a transfer that the record can hold

    valid-cond : (row : ℕ) (d : Bool) (r r' : Reply P) → Valid row r.next → (T (not d) → Valid row r'.next) → Valid row (cond d r r').next
    valid-cond row true r r' h h' = h
    valid-cond row false r r' h h' = h' tt

    valid-read_opening : (g : E.Store) (k : Key) (r : Read) → Good g → E.read_whole g k ≡ r → Valid (row_of k) (read_opening P F k r).next
    unfolding read_opening
    valid-read_opening g k (value bytes) ok e =
        valid-cond (row_of k) (F.closes (length bytes)) _ _ tt
        (λ _. row_fits Reads k (length bytes) (F.carried (length bytes)) (R.read_row g k bytes ok e) (F.carried_in (length bytes)))
    valid-read_opening g k (denied c) ok e = tt

    valid-read_part : (row : ℕ) (x : Pending Key) (u : Bool) → Valid row x → Valid row (read_part P F x u).next
    unfolding read_part give_part
    valid-read_part row idle u v = tt
    valid-read_part row (reading k bytes place t) u v =
        valid-cond row (beq t u) _ _
        (valid-cond row (leb (length bytes) (place + F.size)) _ _ tt
        (λ h.
        let q : place + F.size < length bytes = nleb→lt (length bytes) (place + F.size) h in
        record { there = v.there; key_is = v.key_is; allowed = v.allowed; fitting_length = v.fitting_length; place_in = omega arith }))
        (λ _. tt)
    valid-read_part row (writing k low high sent t) u v = tt

    valid_more : (row : ℕ) (k : Key) (low high n : ℕ) (all : List ℕ) (t : Bool) (y : Answer Key) → low ≡ high → Fits Writes row k high n
        → Valid row (take_more P k low high all t y).next
    unfolding take_more
    valid_more row k low high n all t y e f =
        valid-cond row (ltb high (length all)) _ _ tt
        (λ h. (e, record { there = f.there; key_is = f.key_is; allowed = f.allowed; fitting_length = f.fitting_length; place_in = nltb→le high (length all) h }))

    valid-write_opening : (k : Key) (bytes : List ℕ) (z : Sizes) → SizedFor k z → Valid (row_of k) (write_opening P k bytes z).next
    unfolding SizedFor write_opening
    valid-write_opening k bytes (sizes low high) h =
        valid_more (row_of k) k low high 0 bytes false (write_opened k) h.0 (row_fits Writes k high 0 h.1 (omega arith))
    valid-write_opening k bytes (closed c) h = tt

    valid-conclude : (row : ℕ) (g : E.Store) (k : Key) (y : Answer Key) (r : Outcome E.Store) → Valid row (remains (conclude P g k y r).after)
    unfolding conclude
    valid-conclude row g k y (stored g') = tt
    valid-conclude row g k y (restarted g') = tt
    valid-conclude row g k y (declined c) = tt

    valid-part : (row : ℕ) (g : E.Store) (k : Key) (low high n : ℕ) (all : List ℕ) (t last : Bool) (y : Answer Key) → low ≡ high → Fits Writes row k high n
        → Valid row (remains (take_part P g k low high all t last y).after)
    unfolding take_part
    valid-part row g k low high n all t true y e f = valid-conclude row g k y (judged P g k low high all)
    valid-part row g k low high n all t false y e f = valid_more row k low high n all t y e f

    valid-write_part : (row : ℕ) (g : E.Store) (x : Pending Key) (u : Bool) (bytes : List ℕ) (last : Bool) → Valid row x → Valid row (remains (write_part P g x u bytes last).after)
    unfolding write_part
    valid-write_part row g idle u bytes last v = tt
    valid-write_part row g (reading k held place t) u bytes last v = tt
    valid-write_part row g (writing k low high sent t) u bytes last v = go (beq t u)
      where
        go : (d : Bool) → Valid row (remains (cond d (take_part P g k low high (sent ++ bytes) (not t) last (part_taken t)) (keeping P g (over P (dropped k toggle_code)))).after)
        go true = valid-part row g k low high (length sent) (sent ++ bytes) (not t) last (part_taken t) v.0 v.1
        go false = tt

    valid-serve : (g : E.Store) (t : Transfer) (x : Pending Key) (a : Request Key) → Good g → Valid t.row x → Valid (base t a).row (remains (serve P F g x a).after)
    unfolding serve base
    valid-serve g t x (open_read k) ok v = valid-read_opening g k (E.read_whole g k) ok refl
    valid-serve g t x (next_part u) ok v = valid-read_part t.row x u v
    valid-serve g t x (expedited k s bytes) ok v = valid-conclude 0 g k (write_opened k) (write_whole P g k s bytes)
    valid-serve g t x (open_write k n bytes) ok v = valid-write_opening k bytes (allowed P k (say n)) (opens k (say n))
    valid-serve g t x (send_part u bytes last) ok v = valid-write_part t.row g x u bytes last v
    valid-serve g t x give_up ok v = tt
    valid-serve g t x unknown ok v = tt

    -- ---- a message leaves a good store

    good-judged : (g : E.Store) (k : Key) (low high : ℕ) (bytes : List ℕ) → Good g → low ≡ high → RowOf Writes k high → GoodAfter E Good (judged P g k low high bytes)
    unfolding judged
    good-judged g k low high bytes ok e r = go (ltb high (length bytes)) (ltb (length bytes) low) (nltb→le high (length bytes)) (nltb→le (length bytes) low)
      where
        go : (d c : Bool) → (T (not d) → length bytes ≤ high) → (T (not c) → low ≤ length bytes)
            → GoodAfter E Good (cond d (declined too_long) (cond c (declined too_short) (E.commit g k bytes)))
        go true c p q = tt
        go false true p q = tt
        go false false p q =
            let a : length bytes ≤ high = p tt in
            let b : low ≤ length bytes = q tt in
            let m : length bytes ≡ high = omega (arith, e) in
            R.commit_good g k bytes ok (rw m r)

    good-whole : (g : E.Store) (k : Key) (s : Said) (bytes : List ℕ) (z : Sizes) → Good g → SizedFor k z → GoodAfter E Good (judged_by P g k s bytes z)
    unfolding SizedFor judged_by
    good-whole g k s bytes (sizes low high) ok h = good-judged g k low high (counted s high bytes) ok h.0 h.1
    good-whole g k s bytes (closed c) ok h = tt

    good-conclude : (g : E.Store) (k : Key) (y : Answer Key) (r : Outcome E.Store) → Good g → GoodAfter E Good r → Good (conclude P g k y r).store
    unfolding conclude
    good-conclude g k y (stored g') ok h = h
    good-conclude g k y (restarted g') ok h = h
    good-conclude g k y (declined c) ok h = ok

    good-part : (g : E.Store) (k : Key) (low high : ℕ) (all : List ℕ) (t last : Bool) (y : Answer Key) → Good g → low ≡ high → RowOf Writes k high
        → Good (take_part P g k low high all t last y).store
    unfolding take_part
    good-part g k low high all t true y ok e r = good-conclude g k y (judged P g k low high all) ok (good-judged g k low high all ok e r)
    good-part g k low high all t false y ok e r = ok

    good-write_part : (row : ℕ) (g : E.Store) (x : Pending Key) (u : Bool) (bytes : List ℕ) (last : Bool) → Good g → Valid row x → Good (write_part P g x u bytes last).store
    unfolding write_part
    good-write_part row g idle u bytes last ok v = ok
    good-write_part row g (reading k held place t) u bytes last ok v = ok
    good-write_part row g (writing k low high sent t) u bytes last ok v = go (beq t u)
      where
        go : (d : Bool) → Good (cond d (take_part P g k low high (sent ++ bytes) (not t) last (part_taken t)) (keeping P g (over P (dropped k toggle_code)))).store
        go true = good-part g k low high (sent ++ bytes) (not t) last (part_taken t) ok v.0 (fits-row Writes row k high (length sent) v.1)
        go false = ok

    good-serve : (row : ℕ) (g : E.Store) (x : Pending Key) (a : Request Key) → Good g → Valid row x → Good (serve P F g x a).store
    unfolding serve write_whole
    good-serve row g x (open_read k) ok v = ok
    good-serve row g x (next_part u) ok v = ok
    good-serve row g x (expedited k s bytes) ok v =
        good-conclude g k (write_opened k) (write_whole P g k s bytes) ok (good-whole g k s bytes (allowed P k s) ok (opens k s))
    good-serve row g x (open_write k n bytes) ok v = ok
    good-serve row g x (send_part u bytes last) ok v = good-write_part row g x u bytes last ok v
    good-serve row g x give_up ok v = ok
    good-serve row g x unknown ok v = ok

  -- ---- one message on a line, however it speaks

  module _ (H : Speech Key Key) (g : E.Store) (ok : Good g) (t : Transfer) (m : List ℕ) (w : Whole t) where
    leaves : Valid (base t (H.ask m)).row (remains (serve P H.form g (view t) (H.ask m)).after)
    leaves = valid-serve H.form g t (view t) (H.ask m) ok (valid-view t w)

    -- THEOREM: every message leaves its line's record a transfer that counts, or all zero; a record that counts as none is so cleared
    pub next-served : (counts (speak P transfers H g t m).next ≡ true) ⊎ ((speak P transfers H g t m).next ≡ zero_record)
    unfolding speak
    next-served = lay-served (base t (H.ask m)) _ leaves

  -- THE INSTANCE, for any lines
  module _ (W : Wires (Pending Key) idle) (H : W.Line → Speech Key Key) where
    abbrev lines : Setup
    lines = record { gauge = P; wires = W; speech = H }

    again : (l : W.Line) (g : E.Store) (t : Transfer) (m : List ℕ) → Good g → Whole t → Again lines transfers Good Whole l g t m
    unfolding speak
    again l g t m ok w =
        record {
          good = good-serve (H l).form t.row g (view t) ((H l).ask m) ok (valid-view t w);
          whole = whole-lay (base t ((H l).ask m)) _ (whole-base t ((H l).ask m) w) (leaves (H l) g ok t m w);
          seen = view-lay (base t ((H l).ask m)) _ (leaves (H l) g ok t m w);
        }

    pub keeps : Keeps lines transfers Good Whole
    keeps = record { empty_whole = refl; empty_idle = view_zero; again = again; sample_good = R.sample_good }

-- THEOREM: every abort drops its transfer (R6.2) and leaves the store as it was (R7.10)
pub abort_clears : (E : Entries) (g : E.Store) (t : Transfer) (m : List ℕ) → get_or (speak (gauge E) transfers eight_bytes g t m).bytes 0 0 ≡ 0x80
    → speak (gauge E) transfers eight_bytes g t m ≡ record { store = g; next = zero_record; reset = false; bytes = (speak (gauge E) transfers eight_bytes g t m).bytes }
unfolding speak lay
abort_clears E g t m e = abort_drops (gauge E) transfers eight_bytes g t m (abort_told (serve (gauge E) eight g (view t) (ask_of m)).answer e)
