-- RULE: one line's serving, and the board: a store and what each line holds.
use Rattle.std.specs.Prelude.{ℕ, ◌+◌, ◌≤◌, ◌≡◌, ◌≢◌, Bool, not, List, [], ◌∷◌, ◌++◌, T, ltb, leb, length, take, drop}
use Rattle.std.proofs.Math.Path.{refl}
use Rattle.std.proofs.Math.Bool.{true, false, cond}
use Rattle.std.specs.Bool.{beq}
use Rattle.order.specs.Talk.{Request, open_read, next_part, expedited, open_write, send_part, give_up, unknown, Answer, opened, part_given, write_opened, part_taken, refused, dropped, no_transfer, silent, Read, value, denied, Sizes, sizes, closed, Outcome, stored, restarted, declined, Pending, idle, reading, writing}
use Rattle.order.specs.Gauge.{Gauge, too_long, say, judged, allowed, write_whole}

-- how a line carries a value of some length: how many bytes the opening's answer carries, at most all of them, whether that closes
-- the read, and the size of a part
pub record Form : Type 0 where
  pub carried : ℕ → ℕ
  pub closes : ℕ → Bool
  pub size : ℕ
  pub carried_in : (n : ℕ) → carried n ≤ n
  pub closes_all : (n : ℕ) → T (closes n) → n ≤ carried n

-- how a line speaks: its form, what a message asks, an answer's bytes, and what a client reads in them. The last two may look at
-- the message
pub record Speech (K N : Type 0) : Type 0 where
  pub form : Form
  pub ask : List ℕ → Request K
  pub answer : List ℕ → Answer N → List ℕ
  pub tell : List ℕ → List ℕ → Answer N

-- two lines compared, and what stands at a line put anew
abbrev pub if_same : {L A : Type 0} {l m : L} → Dec (l ≡ m) → A → A → A
if_same (yes e) a b = a
if_same (no e) a b = b

unfoldable pub put_at : {L A : Type 0} → ((l m : L) → Dec (l ≡ m)) → (L → A) → L → A → L → A
put_at same f l a m = if_same (same m l) a (f m)

-- the lines, and what each of them holds; `clear`: none holds anything
pub record Wires (X : Type 0) (x₀ : X) : Type 1 where
  pub Line : Type 0
  pub Lines : Type 0
  pub same : (l m : Line) → Dec (l ≡ m)
  pub at : Lines → Line → X
  pub with : Lines → Line → X → Lines
  pub clear : Lines
  pub at_same : (ls : Lines) (l : Line) (x : X) → at (with ls l x) l ≡ x
  pub at_other : (ls : Lines) (l m : Line) (x : X) → m ≢ l → at (with ls l x) m ≡ at ls m
  pub at_clear : (l : Line) → at clear l ≡ x₀

-- lines that are functions: what stands at a line is looked up
module _ {L X : Type 0} (same : (l m : L) → Dec (l ≡ m)) where
  pub put_same : (f : L → X) (l : L) (x : X) → put_at same f l x l ≡ x
  unfolding put_at
  put_same f l x = go (same l l)
    where
      go : (d : Dec (l ≡ l)) → if_same d x (f l) ≡ x
      go (yes e) = refl
      go (no e) = absurd (e refl)

  pub put_other : (f : L → X) (l m : L) (x : X) → m ≢ l → put_at same f l x m ≡ f m
  unfolding put_at
  put_other f l m x e = go (same m l)
    where
      go : (d : Dec (m ≡ l)) → if_same d x (f m) ≡ f m
      go (yes e') = absurd (e e')
      go (no e') = refl

  abbrev pub by_line : (x₀ : X) → Wires X x₀
  by_line x₀ =
      record {
        Line = L;
        Lines = L → X;
        same = same;
        at = λ f l. f l;
        with = put_at same;
        clear = λ l. x₀;
        at_same = put_same;
        at_other = put_other;
        at_clear = λ l. refl;
      }

-- a gauge, its lines and how each of them speaks
pub record Setup : Type 1 where
  pub gauge : Gauge
  pub wires : Wires (Pending gauge.Key) idle
  pub speech : wires.Line → Speech gauge.Key gauge.Name

-- R7.2
abbrev pub toggle_code : ℕ
toggle_code = 0x05030000

-- what a message leaves of the transfers: its own line's, or, after a device reset, none on any line
pub data After (K : Type 0) : Type 0 where
  kept : Pending K → After K
  wiped : After K

abbrev pub remains : {K : Type 0} → After K → Pending K
remains (kept x) = x
remains wiped = idle

module _ (P : Gauge) where
  -- a reply: what the line holds after it, and the answer. The store is not looked at
  pub record Reply : Type 0 where
    pub next : Pending P.Key
    pub answer : Answer P.Name

  -- the line's transfer is ended or dropped (R6.2)
  abbrev pub over : Answer P.Name → Reply
  over t = record { next = idle; answer = t }

  -- the line's transfer goes on
  abbrev pub onwards : Pending P.Key → Answer P.Name → Reply
  onwards x t = record { next = x; answer = t }

  abbrev pub refuse : P.Key → ℕ → Reply
  refuse k c = over (refused (P.name_of k) c)

  -- open a read: all at once, or the value is held as it is now (R5.2, R5.3)
  unfoldable pub read_opening : Form → P.Key → Read → Reply
  read_opening F k (denied c) = refuse k c
  read_opening F k (value bytes) =
      cond (F.closes (length bytes))
      (over (opened (P.name_of k) (length bytes) (take (F.carried (length bytes)) bytes) true))
      (onwards (reading k bytes (F.carried (length bytes)) false) (opened (P.name_of k) (length bytes) (take (F.carried (length bytes)) bytes) false))

  -- the part from `place` on, marked if it is the last (R5.4)
  unfoldable pub give_part : Form → P.Key → List ℕ → ℕ → Bool → Reply
  give_part F k bytes place t =
      cond (leb (length bytes) (place + F.size))
      (over (part_given t (take F.size (drop place bytes)) true))
      (onwards (reading k bytes (place + F.size) (not t)) (part_given t (take F.size (drop place bytes)) false))

  -- next part of a read: the transfer, then the toggle (R7.2)
  unfoldable pub read_part : Form → Pending P.Key → Bool → Reply
  unfolding give_part
  read_part F idle u = over no_transfer
  read_part F (reading k bytes place t) u = cond (beq t u) (give_part F k bytes place t) (over (dropped (P.name_of k) toggle_code))
  read_part F (writing k low high sent t) u = over no_transfer

  -- a message of a write that is not its last one, `all` being the bytes sent with it and before it (R7.8)
  unfoldable pub take_more : P.Key → ℕ → ℕ → List ℕ → Bool → Answer P.Name → Reply
  take_more k low high all t answer = cond (ltb high (length all)) (refuse k too_long) (onwards (writing k low high all t) answer)

  -- open a write: what is judged there (R7.8)
  unfoldable pub write_opening : P.Key → List ℕ → Sizes → Reply
  unfolding take_more
  write_opening k bytes (closed c) = refuse k c
  write_opening k bytes (sizes low high) = take_more k low high bytes false (write_opened (P.name_of k))

  -- what one request comes to: the store, what is left of the transfers, the answer
  pub record Served : Type 0 where
    pub store : P.Store
    pub after : After P.Key
    pub answer : Answer P.Name

  -- a reply leaves the store (R6.7)
  abbrev pub keeping : P.Store → Reply → Served
  keeping g r = record { store = g; after = kept r.next; answer = r.answer }

  -- a write's last message is answered with yes or a code
  unfoldable pub conclude : P.Store → P.Key → Answer P.Name → Outcome P.Store → Served
  conclude g k answer (stored g') = keeping g' (over answer)
  conclude g k answer (restarted g') = record { store = g'; after = wiped; answer = answer }
  conclude g k answer (declined c) = keeping g (refuse k c)

  -- a part of a write, `last` whether it is the last one
  unfoldable pub take_part : P.Store → P.Key → ℕ → ℕ → List ℕ → Bool → Bool → Answer P.Name → Served
  unfolding conclude judged take_more
  take_part g k low high all t true answer = conclude g k answer (judged P g k low high all)
  take_part g k low high all t false answer = keeping g (take_more k low high all t answer)

  -- next part of a write: the transfer, then the toggle (R7.2)
  unfoldable pub write_part : P.Store → Pending P.Key → Bool → List ℕ → Bool → Served
  unfolding take_part
  write_part g idle u bytes last = keeping g (over no_transfer)
  write_part g (reading k held place t) u bytes last = keeping g (over no_transfer)
  write_part g (writing k low high sent t) u bytes last =
      cond (beq t u) (take_part g k low high (sent ++ bytes) (not t) last (part_taken t)) (keeping g (over (dropped (P.name_of k) toggle_code)))

  -- ONE REQUEST on a line that holds x: an opening drops what it holds (R6.2), the client's abort too (R5.9)
  unfoldable pub serve : Form → P.Store → Pending P.Key → Request P.Key → Served
  unfolding read_opening read_part conclude write_opening write_part write_whole
  serve F g x (open_read k) = keeping g (read_opening F k (P.read_whole g k))
  serve F g x (next_part u) = keeping g (read_part F x u)
  serve F g x (expedited k s bytes) = conclude g k (write_opened (P.name_of k)) (write_whole P g k s bytes)
  serve F g x (open_write k n bytes) = keeping g (write_opening k bytes (allowed P k (say n)))
  serve F g x (send_part u bytes last) = write_part g x u bytes last
  serve F g x give_up = keeping g (over silent)
  serve F g x unknown = keeping g (over no_transfer)

module _ (S : Setup) where
  -- THE BOARD
  pub record Board : Type 0 where
    pub store : S.gauge.Store
    pub lines : S.wires.Lines

  pub data Event : Type 0 where
    message : S.wires.Line → Request S.gauge.Key → Event
    sample : S.gauge.Sample → Event

  -- what a line's message comes to
  abbrev pub served_on : Board → S.wires.Line → Request S.gauge.Key → Served S.gauge
  served_on b l a = serve S.gauge (S.speech l).form b.store (S.wires.at b.lines l) a

  -- a device reset drops the transfers of all lines (R8.8)
  abbrev pub leave : S.wires.Lines → S.wires.Line → After S.gauge.Key → S.wires.Lines
  leave ls l (kept x) = S.wires.with ls l x
  leave ls l wiped = S.wires.clear

  unfoldable pub step : Board → Event → Board × Answer S.gauge.Name
  step b (message l a) =
      let s : Served S.gauge = served_on b l a in
      (record { store = s.store; lines = leave b.lines l s.after }, s.answer)
  step b (sample s) = (record { store = S.gauge.sampled b.store s; lines = b.lines }, silent)

  -- each event with its answer
  unfoldable pub trace : Board → List Event → List (Event × Answer S.gauge.Name)
  trace b [] = []
  trace b (e ∷ es) = (e, (step b e).1) ∷ trace (step b e).0 es

  unfoldable pub run : Board → List Event → Board
  run b [] = b
  run b (e ∷ es) = run (step b e).0 es
