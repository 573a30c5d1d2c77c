-- A record and the transfer that it stands for: each is got back from the other.
use Prim.Native.Nat.{ℕ, zero, suc, ◌+◌, ◌≤◌, ◌<◌}
use native.Mathlib.Omega.{arith}
use native.Mathlib.Nat.{zero-add}
use mathlib.Core.Path.{◌≡◌, refl, sym, ap₂, ◌∙◌}
use mathlib.Core.Logic.{◌⊎◌, inl, inr}
use mathlib.Core.Bool.{Bool, true, false, cond, not, ◌&&◌, and-eq-true_iff}
use mathlib.Core.List.{List, [], ◌∷◌, ◌++◌, append_assoc}
use lib.Dec.{leb, ltb}
use lib.ListN.{length, take, drop, replicate, length-append, length-drop, take-append-drop}
use lib.Seq.{take_at, take-take, length-take-le}
use borrow.Author.Tests.{lt-ltb, le-leb, ltb-true, leb-true}
use Rattle.wire.specs.Splice.{splice}
use Rattle.wire.proofs.SpliceLaws.{part_same}
use Rattle.order.specs.Talk.{Request, open_read, next_part, expedited, open_write, send_part, give_up, unknown, no_transfer, Pending, idle, reading, writing}
use Rattle.order.specs.Serve.{Form, over, read_part, keeping, write_part}
use Rattle.table.specs.Rows.{row_count, at_row}
use Rattle.table.specs.Row.{smallest, largest, Allowed}
use Rattle.table.specs.Find.{At, find_row, row_number}
use Rattle.table.proofs.Lengths.{largest_is}
use Rattle.table.proofs.Table.{row_rule, find_at, row-found}
use Rattle.sdo.specs.declared.Key.{Key}
use Rattle.sdo.specs.Entries.{Entries, gauge}
use Rattle.transfer.specs.declared.Direction.{Direction}
use Rattle.transfer.specs.declared.Direction.TheVariants.{Neither, Reads, Writes}
use Rattle.transfer.specs.declared.Transfer.{Transfer}
use Rattle.transfer.specs.Records.{zero_record, key_at, row_of, allows, RowOf, counts, pending, view, zero_record_at, base, lay}
use Rattle.transfer.specs.Turns.{goes, is_reading, is_writing, filled, opened_record, turned, grown}

-- a transfer of an entry whose row allows it, of a length that its values may have, with its place inside
pub record Fits (d : Direction) (row : ℕ) (k : Key) (len place : ℕ) : Type 0 where
  pub there : row < row_count
  pub key_is : k ≡ key_at row
  pub allowed : allows d (at_row row).access ≡ true
  pub fitting_length : Allowed (at_row row) len
  pub place_in : place ≤ len

pub at_most_64 : {d : Direction} {row : ℕ} {k : Key} {len place : ℕ} → Fits d row k len place → len ≤ 64
at_most_64 {row = row} f = let most = (row_rule row f.there).most in omega (arith, f.fitting_length.not_over, largest_is (at_row row), most)

-- a record that counts fits the table, and one that fits counts
pub counts-fits : (t : Transfer) → counts t ≡ true → Fits t.direction t.row (key_at t.row) t.len t.place
unfolding counts
counts-fits t e =
    let a = (and-eq-true_iff (ltb t.row row_count) _).0 e in
    let b = (and-eq-true_iff (allows t.direction (at_row t.row).access) _).0 a.1 in
    let c = (and-eq-true_iff (leb (smallest (at_row t.row)) t.len && leb t.len (largest (at_row t.row))) _).0 b.1 in
    let l = (and-eq-true_iff (leb (smallest (at_row t.row)) t.len) _).0 c.0 in
    record {
      there = ltb-true _ _ a.0;
      key_is = refl;
      allowed = b.0;
      fitting_length = record { enough = leb-true _ _ l.0; not_over = leb-true _ _ l.1 };
      place_in = leb-true _ _ c.1;
    }

pub fits-counts : (t : Transfer) (k : Key) → Fits t.direction t.row k t.len t.place → counts t ≡ true
unfolding counts
fits-counts t k f = rw (lt-ltb t.row row_count f.there, f.allowed, le-leb _ _ f.fitting_length.enough, le-leb _ _ f.fitting_length.not_over, le-leb t.place t.len f.place_in)

-- an entry and the row that the table finds for it
pub found-key : (k : Key) (row : ℕ) → find_row k.index k.sub ≡ At row → k ≡ key_at row
found-key k row e =
    let at = find_at k.index k.sub row e in
    ap₂ (λ (i s : ℕ). record { index = i; sub = s }) (sym at.index_is) (sym at.sub_is)

pub found_number : (k : Key) (row : ℕ) → find_row k.index k.sub ≡ At row → row_of k ≡ row
unfolding row_number
found_number k row e = rw e

pub row_fits : (d : Direction) (k : Key) (n place : ℕ) → RowOf d k n → place ≤ n → Fits d (row_of k) k n place
row_fits d k n place r h =
    rw (found_number k r.row r.found)
    (record {
      there = (find_at k.index k.sub r.row r.found).there;
      key_is = found-key k r.row r.found;
      allowed = r.allowed;
      fitting_length = r.fitting_length;
      place_in = h;
    })

pub fits-row : (d : Direction) (row : ℕ) (k : Key) (n place : ℕ) → Fits d row k n place → RowOf d k n
fits-row d row k n place f =
    rw f.key_is
    (record {
      row = row;
      found = row-found (at_row row).index (at_row row).sub row (record { there = f.there; index_is = refl; sub_is = refl });
      allowed = f.allowed;
      fitting_length = f.fitting_length;
    })

-- a transfer that a record with this row can hold
abbrev pub Valid : ℕ → Pending Key → Type 0
Valid row idle = Unit {0}
Valid row (reading k bytes place t) = Fits Reads row k (length bytes) place
Valid row (writing k low high sent t) = (low ≡ high) × Fits Writes row k high (length sent)

pub view_zero : view zero_record ≡ idle
unfolding view
view_zero = refl

-- what a record that was laid down stands for, as far as it counts
said-back : (t : Transfer) (x : Pending Key) → Valid t.row x → pending (lay t x).direction (lay t x) ≡ x
unfolding lay pending
said-back t idle v = refl
said-back t (reading k bytes place u) v = rw (take_at bytes (drop (length bytes) t.held) (length bytes) refl, v.key_is)
said-back t (writing k low high sent u) v = rw (take_at sent (drop (length sent) t.held) (length sent) refl, v.1.key_is, v.0)

pub view-lay : (t : Transfer) (x : Pending Key) → Valid t.row x → view (lay t x) ≡ x
unfolding view lay
view-lay t idle v = refl
view-lay t (reading k bytes place u) v = rw (fits-counts (lay t (reading k bytes place u)) k v) (said-back t (reading k bytes place u) v)
view-lay t (writing k low high sent u) v = rw (fits-counts (lay t (writing k low high sent u)) k v.1) (said-back t (writing k low high sent u) v)

-- a record's bytes are an array of 64
abbrev pub Whole : Transfer → Type 0
Whole t = length t.held ≡ 64

valid-pending : (d : Direction) (t : Transfer) → Whole t → Fits d t.row (key_at t.row) t.len t.place → Valid t.row (pending d t)
unfolding pending
valid-pending Neither t w f = tt
valid-pending Reads t w f = rw (length-take-le t.len t.held (omega (arith, at_most_64 f))) f
valid-pending Writes t w f =
    let n : t.len ≤ 64 = at_most_64 f in
    let p : t.place ≤ t.len = f.place_in in
    (refl, rw (length-take-le t.place t.held (omega arith)) f)

pub valid-view : (t : Transfer) → Whole t → Valid t.row (view t)
unfolding view
valid-view t w = go (counts t) refl
  where
    go : (d : Bool) → counts t ≡ d → Valid t.row (cond d (pending t.direction t) idle)
    go true e = valid-pending t.direction t w (counts-fits t e)
    go false e = tt

whole-over : (bytes l : List ℕ) → length bytes ≤ 64 → length l ≡ 64 → length (bytes ++ drop (length bytes) l) ≡ 64
whole-over bytes l h e = rw (length-append, length-drop) (omega arith)

pub whole-lay : (t : Transfer) (x : Pending Key) → Whole t → Valid t.row x → Whole (lay t x)
unfolding lay
whole-lay t idle w v = refl
whole-lay t (reading k bytes place u) w v = whole-over bytes t.held (at_most_64 v) w
whole-lay t (writing k low high sent u) w v =
    let n : high ≤ 64 = at_most_64 v.1 in
    let p : length sent ≤ high = v.1.place_in in
    whole-over sent t.held (omega arith) w

pub whole-base : (t : Transfer) (a : Request Key) → Whole t → Whole (base t a)
unfolding base
whole-base t (open_read k) w = refl
whole-base t (next_part u) w = w
whole-base t (expedited k s bytes) w = refl
whole-base t (open_write k n bytes) w = refl
whole-base t (send_part u bytes last) w = w
whole-base t give_up w = refl
whole-base t unknown w = refl

-- what a message leaves: a record that counts, or one that is all zero
pub lay-served : (t : Transfer) (x : Pending Key) → Valid t.row x → (counts (lay t x) ≡ true) ⊎ (lay t x ≡ zero_record)
unfolding lay
lay-served t idle v = inr refl
lay-served t (reading k bytes place u) v = inl (fits-counts (lay t (reading k bytes place u)) k v)
lay-served t (writing k low high sent u) v = inl (fits-counts (lay t (writing k low high sent u)) k v.1)

-- a record whose numbers fit its bytes in the state
pub record Small (t : Transfer) : Type 0 where
  pub row_fits : t.row < 65536
  pub len-fits : t.len < 256
  pub place-fits : t.place < 256

pub served_small : (t : Transfer) → (counts t ≡ true) ⊎ (t ≡ zero_record) → Small t
served_small t (inl c) =
    let f = counts-fits t c in
    let r : t.row < row_count = f.there in
    let l : t.len ≤ 64 = at_most_64 f in
    let p : t.place ≤ t.len = f.place_in in
    record { row_fits = omega arith; len-fits = omega arith; place-fits = omega arith }
served_small t (inr e) = rw e (record { row_fits = omega arith; len-fits = omega arith; place-fits = omega arith })

-- ---- a part, by whether the record holds a transfer of its direction

module _ (t : Transfer) where
  -- a record that reads is seen as a read of the bytes that it holds
  pub view-reading : (is_reading t.direction && counts t) ≡ true → view t ≡ reading (key_at t.row) (take t.len t.held) t.place t.toggle
  unfolding view pending goes
  view-reading = go t.direction (counts t)
    where
      go : (d : Direction) (c : Bool) → (is_reading d && c) ≡ true → cond c (pending d t) idle ≡ reading (key_at t.row) (take t.len t.held) t.place t.toggle
      go Neither c e = cc
      go Reads true e = refl
      go Reads false e = cc
      go Writes c e = cc

  -- one that writes, as a write of the row's length
  pub view-writing : (is_writing t.direction && counts t) ≡ true → view t ≡ writing (key_at t.row) t.len t.len (take t.place t.held) t.toggle
  unfolding view pending goes
  view-writing = go t.direction (counts t)
    where
      go : (d : Direction) (c : Bool) → (is_writing d && c) ≡ true → cond c (pending d t) idle ≡ writing (key_at t.row) t.len t.len (take t.place t.held) t.toggle
      go Neither c e = cc
      go Reads c e = cc
      go Writes true e = refl
      go Writes false e = cc

  module _ (E : Entries) where
    -- the part of a read that the record does not hold
    pub no_reading : (F : Form) (u : Bool) → (is_reading t.direction && counts t) ≡ false → read_part (gauge E) F (view t) u ≡ over (gauge E) no_transfer
    unfolding view pending goes read_part
    no_reading F u = go t.direction (counts t)
      where
        go : (d : Direction) (c : Bool) → (is_reading d && c) ≡ false → read_part (gauge E) F (cond c (pending d t) idle) u ≡ over (gauge E) no_transfer
        go Neither true e = refl
        go Neither false e = refl
        go Reads true e = cc
        go Reads false e = refl
        go Writes true e = refl
        go Writes false e = refl

    pub no_writing : (g : E.Store) (u : Bool) (bytes : List ℕ) (last : Bool) → (is_writing t.direction && counts t) ≡ false
        → write_part (gauge E) g (view t) u bytes last ≡ keeping (gauge E) g (over (gauge E) no_transfer)
    unfolding view pending goes write_part
    no_writing g u bytes last = go t.direction (counts t)
      where
        go : (d : Direction) (c : Bool) → (is_writing d && c) ≡ false → write_part (gauge E) g (cond c (pending d t) idle) u bytes last ≡ keeping (gauge E) g (over (gauge E) no_transfer)
        go Neither true e = refl
        go Neither false e = refl
        go Reads true e = refl
        go Reads false e = refl
        go Writes true e = cc
        go Writes false e = refl

  -- what is known of a record that counts in some direction
  pub held_fits : (b : Bool) → (b && counts t) ≡ true → Fits t.direction t.row (key_at t.row) t.len t.place
  held_fits b e = counts-fits t ((and-eq-true_iff b (counts t)).0 e).1

-- ---- the record after a part

module _ (t : Transfer) where
  -- after a part of a read that was not the last
  pub lay-reading : (size : ℕ) → t.len ≤ length t.held → lay t (reading (key_at t.row) (take t.len t.held) (t.place + size) (not t.toggle)) ≡ turned t size
  unfolding lay
  lay-reading size h =
      let n : length (take t.len t.held) ≡ t.len = length-take-le t.len t.held h in
      rw (n, take-append-drop)

  -- with a part of a write: the bytes sent, the part's included
  module _ (bytes : List ℕ) (inside : t.place ≤ length t.held) where
    pub sent-length : length (take t.place t.held ++ bytes) ≡ t.place + length bytes
    sent-length = rw (length-append, length-take-le t.place t.held inside)

    pub lay-writing : (low : ℕ) → lay t (writing (key_at t.row) low t.len (take t.place t.held ++ bytes) (not t.toggle)) ≡ grown t bytes
    unfolding lay splice
    lay-writing low = rw (sent-length, append_assoc)

    -- all of a write stands in the record that its last part makes
    pub all_held : t.place + length bytes ≡ t.len → take t.len (grown t bytes).held ≡ take t.place t.held ++ bytes
    unfolding splice
    all_held e = rw (← append_assoc) (take_at (take t.place t.held ++ bytes) (drop (t.place + length bytes) t.held) t.len (sent-length ∙ e))

-- a part that ends inside the first m
pub part-within : (n p m : ℕ) (l : List ℕ) → p + n ≤ m → take n (drop p (take m l)) ≡ take n (drop p l)
part-within n zero m l h = take-take n m l (omega arith)
part-within n (suc p) zero l h = absurd (omega arith)
part-within n (suc p) (suc m) [] h = refl
part-within n (suc p) (suc m) (x ∷ xs) h = part-within n p m xs (omega arith)

-- ---- the record after an opening

-- of a read whose answer carries none of the value
pub lay-opened : (row : ℕ) (k : Key) (bytes : List ℕ) → lay (zero_record_at row) (reading k bytes 0 false) ≡ opened_record Reads row (filled bytes) (length bytes) 0
unfolding lay splice
lay-opened row k bytes = rw (zero-add (length bytes))

-- of a write that brings bytes with its opening
pub lay_begun : (row : ℕ) (k : Key) (low high : ℕ) (bytes : List ℕ) → lay (zero_record_at row) (writing k low high bytes false) ≡ opened_record Writes row (filled bytes) high (length bytes)
unfolding lay splice
lay_begun row k low high bytes = rw (zero-add (length bytes))

-- the bytes that a whole value's record begins with
pub filled-value : (bytes : List ℕ) (len : ℕ) → length bytes ≡ len → take len (filled bytes) ≡ bytes
filled-value bytes len e = part_same (replicate 64 0) 0 bytes refl len e
