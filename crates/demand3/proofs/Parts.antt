-- THE COUNT OF PARTS at the exported calls: a read ends with exactly so many parts as its length takes in the line's form, and none where the opening carries all.
use Prim.Native.Nat.{ℕ, ◌+◌, ◌-◌, ◌*◌, ◌/◌, ◌≤◌, ◌<◌}
use native.Mathlib.Nat.{add-mul, le-div_iff_mul-le, div-lt_iff_lt-mul}
use native.Mathlib.Omega.{arith}
use mathlib.Core.Path.{◌≡◌, refl, sym, ap, subst, ◌∙◌}
use mathlib.Core.Bool.{Bool, true, false, cond, ◌&&◌, and-false}
use mathlib.Core.List.{List, map}
use mathlib.Core.Option
use mathlib.Core.Option.{Option, some}
use lib.Dec.{T, leb}
use lib.ListN.{length, take}
use lib.Seq.{take_all}
use borrow.Author.Tests.{le-leb, lt-leb, leb-false}
use Rattle.order.specs.Talk.{Request, Answer, opened, Read, reading, gave}
use Rattle.order.specs.Gauge.{read}
use Rattle.order.specs.Serve.{Form, Setup, over, onwards, Reply, read_opening, serve, Board}
use Rattle.order.specs.Observe.{read_done, follow}
use Rattle.order.specs.Bytes.{Call, heard, reads}
use Rattle.order.specs.Keep.{speak, RecordBoard, record_call, record_talk, NoReset, RecordEnds}
use Rattle.order.proofs.Kept.{Shows, opened-ends}
use Rattle.table.specs.Rows.{at_row}
use Rattle.table.proofs.Lengths.{allowed-room}
use Rattle.table.proofs.Table.{row_rule, find_at}
use Rattle.sdo.specs.declared.Key.{Key}
use Rattle.sdo.specs.Eight.{eight}
use Rattle.sdo.specs.Long.{long_form}
use Rattle.mailbox.specs.Lines.{Line, tool, service, speech_of}
use Rattle.transfer.specs.declared.Direction.TheVariants.{Reads}
use Rattle.transfer.specs.Records.{RowOf, view, transfers}
use Rattle.line.specs.Gauge.{plain}
use Rattle.board.specs.Calls.{boxed_by, power_up_call}
use Rattle.demand3.specs.Firmware.{setup, Arrays, Exported, exported, history, final, power_on, Answered, events, calls_in, store_in, board_in, parts_needed, parts_asked, ReadOpened, read_seen, ExactParts}
use Rattle.demand3.proofs.Bag552.{real-rows, kept-records, all-clear}
use Rattle.demand3.proofs.Calls.{Fitting, whole_board, IsCall, fine, same-run, from_power_up}

-- ---- how many parts a length takes

-- r bytes in parts of s: rounded up
reached : (r s q : ℕ) → 0 < s → q ≡ (r + (s - 1)) / s → r ≤ q * s
reached r s q pos e =
    let below : (r + (s - 1)) / s < q + 1 = omega (arith, e) in
    let h : r + (s - 1) < (q + 1) * s = (div-lt_iff_lt-mul pos).0 below in
    omega (arith, h, add-mul q 1 s)

not_reached : (r s q : ℕ) → 0 < s → q < (r + (s - 1)) / s → q * s < r
not_reached r s q pos e =
    let above : q + 1 ≤ (r + (s - 1)) / s = omega (arith, e) in
    let h : (q + 1) * s ≤ r + (s - 1) = (le-div_iff_mul-le pos).0 above in
    omega (arith, h, add-mul q 1 s)

-- parts have bytes, and an opening that does not close a read of some bytes leaves some over
record Parted (F : Form) : Type 0 where
  part-some : 0 < F.size
  left_over : (n : ℕ) → 0 < n → F.closes n ≡ false → F.carried n < n

eight_parted : Parted eight
unfolding eight
eight_parted = record { part-some = omega arith; left_over = λ n h e. rw e h }

long_parted : Parted long_form
unfolding long_form
long_parted = record { part-some = omega arith; left_over = λ n h e. omega (arith, leb-false n 112 e) }

line_parted : (boxed : Bool) (l : Line) → Parted (speech_of boxed l).form
line_parted true tool = long_parted
line_parted false tool = eight_parted
line_parted boxed service = eight_parted

-- for readers: in eight bytes; in mailboxes, where the opening carries 112
short_no : (n : ℕ) → 4 < n → (leb 1 n && leb n 4) ≡ false
short_no n h = rw (lt-leb n 4 h) (and-false (leb 1 n))

pub parts_eight : (n : ℕ) → 4 < n → parts_needed eight n ≡ (n + 6) / 7
unfolding parts_needed eight
parts_eight n h = rw (short_no n h) (omega arith)

pub parts_fit : (n : ℕ) → n ≤ 112 → parts_needed long_form n ≡ 0
unfolding parts_needed long_form
parts_fit n h = rw (le-leb n 112 h) refl

pub parts_over : (n : ℕ) → 112 < n → parts_needed long_form n ≡ (n - 112 + 118) / 119
unfolding parts_needed long_form
parts_over n h = rw (lt-leb n 112 h) (omega (arith, h))

-- ---- a read that is opened, and the calls after it

module _ (boxed : Bool) (a : Arrays) (ok : Fitting boxed a) (c : Exported) (l : Line) (m answer bytes : List ℕ) (cs : List Exported) (r : ReadOpened boxed a c l m answer bytes cs) where
  abbrev S : Setup
  S = setup boxed

  abbrev F : Form
  F = (speech_of boxed l).form

  abbrev n : ℕ
  n = length bytes

  abbrev a' : Arrays
  a' = (exported a c).0

  abbrev ds : List (Call S)
  ds = calls_in boxed (history a' cs)

  -- the opening is the board's call
  opened_board : record_call S transfers (board_in boxed a) (heard l m) ≡ (board_in boxed a', answer)
  opened_board = subst (IsCall boxed (board_in boxed a) (board_in boxed a')) r.heard_so (fine boxed a ok c).1

  abbrev from : RecordBoard S transfers
  from = (record_call S transfers (board_in boxed a) (heard l m)).0

  from_is : board_in boxed a' ≡ from
  from_is = sym (ap (λ (x : RecordBoard S transfers × List ℕ). x.0) opened_board)

  -- what a client has after these calls, given the bytes that the opening brought
  abbrev ahead : List ℕ → Option (List ℕ)
  ahead got = follow S l (map (reads S) (events boxed (history a' cs))) got

  -- the opening's answer, by whether it closes the read
  abbrev reply : Bool → Reply plain
  reply d =
      cond d (over plain (opened r.key n (take (F.carried n) bytes) true))
      (onwards plain (reading r.key bytes (F.carried n) false) (opened r.key n (take (F.carried n) bytes) false))

  told : (speech_of boxed l).tell m answer ≡ (reply (F.closes n)).answer
  unfolding record_call speak serve read_opening
  told =
      ap (λ (x : RecordBoard S transfers × List ℕ). (speech_of boxed l).tell m x.1) (sym opened_board)
      ∙ all-clear boxed l m (store_in a) (view ((board_in boxed a).records l)) ((speech_of boxed l).ask m)
      ∙ ap (λ (q : Request Key). (serve plain F (store_in a) (view ((board_in boxed a).records l)) q).answer) r.opens
      ∙ ap (λ (v : Read). (read_opening plain F r.key v).answer) r.holds

  seen_is : (d : Bool) → F.closes n ≡ d → read_seen boxed l r.key m answer (history a' cs) ≡ read_done plain r.key (reply d).answer ahead
  seen_is d e = ap (λ (t : Answer Key). read_done plain r.key t ahead) (told ∙ ap (λ (b : Bool). (reply b).answer) e)

  -- every entry has bytes
  some_bytes : 0 < n
  some_bytes =
      let row : RowOf Reads r.key n = real-rows.read_row (store_in a) r.key bytes ok.memory-sized r.holds in
      omega (arith, (row_rule row.row (find_at r.key.index r.key.sub row.row row.found).there).some, allowed-room (at_row row.row) row.fitting_length)

  -- the board of lines that the arrays stand for
  abbrev lines : Board S
  lines = record { store = store_in a; lines = λ k. view ((board_in boxed a).records k) }

  shows : Shows S transfers (kept-records boxed) (board_in boxed a) lines
  shows = record { same_store = refl; same_lines = λ k. refl; good = ok.memory-sized; whole = whole_board boxed a ok }

  -- the opening left bytes over
  module _ (over-still : F.closes n ≡ false) where
    counted : RecordEnds S transfers l bytes (F.carried n) from ds
    counted =
        opened-ends S transfers (kept-records boxed) (all-clear boxed) l (board_in boxed a) lines shows m r.key bytes r.opens r.holds
        ((line_parted boxed l).left_over n some_bytes over-still) ds
        (record { right = r.right; calm = subst (λ (b : RecordBoard S transfers). NoReset S transfers b ds) from_is r.calm })

    same-value : ahead (take (F.carried n) bytes) ≡ follow S l (map (reads S) (record_talk S transfers from ds)) (take (F.carried n) bytes)
    same-value =
        ap (λ (ps : List (Answered boxed)). follow S l (map (reads S) ps) (take (F.carried n) bytes))
        ((same-run boxed cs a' (fine boxed a ok c).0).same_answers ∙ ap (λ (b : RecordBoard S transfers). record_talk S transfers b ds) from_is)

    needed : parts_needed F n ≡ (n - F.carried n + (F.size - 1)) / F.size
    unfolding parts_needed
    needed = rw over-still

    left : F.carried n < n
    left = (line_parted boxed l).left_over n some_bytes over-still

    by_parts : ExactParts boxed a c l m answer bytes cs r.key
    unfolding read_done
    by_parts =
        record {
          at_last = λ e.
              let h = reached (n - F.carried n) F.size (parts_asked boxed l (history a' cs)) (line_parted boxed l).part-some (e ∙ needed) in
              seen_is false over-still ∙ ap (Option.map (λ v. (read r.key, gave v))) (same-value ∙ counted.at_last (omega (arith, h, left)));
          not_before = λ e.
              let h = not_reached (n - F.carried n) F.size (parts_asked boxed l (history a' cs)) (line_parted boxed l).part-some (rw (← needed) e) in
              seen_is false over-still ∙ ap (Option.map (λ v. (read r.key, gave v))) (same-value ∙ counted.not_before (omega (arith, h, left)));
        }

  -- the opening brought all
  at_once : F.closes n ≡ true → ExactParts boxed a c l m answer bytes cs r.key
  unfolding read_done parts_needed
  at_once e =
      record {
        at_last = λ _. seen_is true e ∙ ap (λ (v : List ℕ). some (read r.key, gave v)) (take_all (F.carried n) bytes (F.closes_all n (subst T (sym e) tt)));
        not_before = λ h. let none : parts_needed F n ≡ 0 = rw e refl in absurd (omega (arith, h, none));
      }

  pub exact_parts_from : ExactParts boxed a c l m answer bytes cs r.key
  exact_parts_from = go (F.closes n) refl
    where
      go : (d : Bool) → F.closes n ≡ d → ExactParts boxed a c l m answer bytes cs r.key
      go true e = at_once e
      go false e = by_parts e

-- THEOREM: from power-up, whatever form it is given, after any calls, whatever the other line and the samples do between
pub exact_parts : (form : ℕ) (v b s : List ℕ) → (power_up_call form v b s).number ≡ 0 → (before : List Exported) (c : Exported) (l : Line) (m answer bytes : List ℕ) (cs : List Exported)
    → (r : ReadOpened (boxed_by form) (final (power_on form v b s) before) c l m answer bytes cs) → ExactParts (boxed_by form) (final (power_on form v b s) before) c l m answer bytes cs r.key
exact_parts form v b s e before c l m answer bytes cs r =
    exact_parts_from (boxed_by form) (final (power_on form v b s) before) (from_power_up form v b s e before).lent c l m answer bytes cs r
