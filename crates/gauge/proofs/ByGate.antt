-- The gate is the checks of a key: one law for reads and one for writes. So whole reads and writes go by the gate, as the code does.
-- Assumes nothing.
use mathlib.Core.Path.{◌≡◌, refl, sym, ap, ◌∙◌}
use mathlib.Core.Bool.{Bool, true, false, cond}
use mathlib.Core.List.{List, [], ◌∷◌}
use mathlib.Core.Option.{Option, none, some}
use Prim.Native.Nat.{ℕ}
use lib.Dec.{eqb}
use Rattle.order.specs.Talk.{unsaid, Read, value, denied, Sizes, sizes, closed, Outcome, declined}
use Rattle.order.specs.Gauge.{counted}
use Rattle.table.specs.Row.{RO, WO, smallest, largest}
use Rattle.table.specs.Rows.{at_row}
use Rattle.table.specs.Find.{Found, At, NoIndex, NoSub, find_row, row_number}
use Rattle.gate.specs.Gates.{Way, to_row, no_way, gate, read_gate, write_gate}
use Rattle.gauge.specs.Memory.{Store}
use Rattle.gauge.specs.Checks.{asked, asked_key, Test, no_such_index, no_such_subindex, only_written, only_read, code_of, is_no_index, is_no_sub, fails, read_order, key_order, last_order, refused_by, unless_refused}
use Rattle.gauge.specs.Whole.{value_of, read_checked, read_whole, sizes_checked, write_sizes, effect, write_by, commit_row, with_trips, commit_whole}
use Rattle.gauge.proofs.InOrder.{parted}

-- ---- the gate

module _ (barred : ℕ) (t : Test) (own : (r : ℕ) → fails t (asked_key (At r)) ≡ eqb (at_row r).access barred) where
  by_checks : (f : Found) → gate barred (code_of t) f ≡ unless_refused (refused_by (asked_key f) (no_such_index ∷ no_such_subindex ∷ t ∷ [])) no_way (to_row (row_number f))
  unfolding gate refused_by unless_refused fails code_of is_no_index is_no_sub row_number
  by_checks NoIndex = refl
  by_checks NoSub = refl
  by_checks (At r) = rw (own r) (go (eqb (at_row r).access barred))
    where
      go : (b : Bool) → cond b (no_way (code_of t)) (to_row r) ≡ unless_refused (cond b (some t) none) no_way (to_row r)
      go true = refl
      go false = refl

pub read_gate_checks : (f : Found) → read_gate f ≡ unless_refused (refused_by (asked_key f) read_order) no_way (to_row (row_number f))
unfolding read_order fails code_of row_number
read_gate_checks f = by_checks WO only_written (λ r. refl) f

pub write_gate_checks : (f : Found) → write_gate f ≡ unless_refused (refused_by (asked_key f) key_order) no_way (to_row (row_number f))
unfolding key_order fails code_of row_number
write_gate_checks f = by_checks RO only_read (λ r. refl) f

-- ---- what comes of a way

unfoldable pub read_through : Way → List ℕ → Read
read_through (to_row r) values = value (value_of (at_row r) values)
read_through (no_way code) values = denied code

unfoldable pub sizes_of : Way → Sizes
sizes_of (to_row r) = sizes (smallest (at_row r)) (largest (at_row r))
sizes_of (no_way code) = closed code

unfoldable pub commit_through : Way → Store → List ℕ → Outcome Store
commit_through (to_row r) g bytes = with_trips g (commit_row r bytes g.memory)
commit_through (no_way code) g bytes = declined code

module _ (index sub : ℕ) where
  abbrev found : Found
  found = find_row index sub

  pub sizes_by_gate : write_sizes index sub ≡ sizes_of (write_gate found)
  unfolding write_sizes sizes_checked unless_refused sizes_of
  sizes_by_gate = go (refused_by (asked_key found) key_order) ∙ ap sizes_of (sym (write_gate_checks found))
    where
      go : (o : Option Test) → unless_refused o closed (sizes (smallest (at_row (row_number found))) (largest (at_row (row_number found)))) ≡ sizes_of (unless_refused o no_way (to_row (row_number found)))
      go none = refl
      go (some t) = refl

  module _ (g : Store) where
    pub read_by_gate : read_whole g index sub ≡ read_through (read_gate found) g.memory.values
    unfolding read_whole read_checked unless_refused read_through
    read_by_gate = go (refused_by (asked_key found) read_order) ∙ ap (λ (w : Way). read_through w g.memory.values) (sym (read_gate_checks found))
      where
        go : (o : Option Test) → unless_refused o denied (value (value_of (at_row (row_number found)) g.memory.values)) ≡ read_through (unless_refused o no_way (to_row (row_number found))) g.memory.values
        go none = refl
        go (some t) = refl

    pub commit_by_gate : (bytes : List ℕ) → commit_whole g index sub bytes ≡ commit_through (write_gate found) g bytes
    unfolding commit_whole commit_through commit_row write_by with_trips unless_refused refused_by key_order last_order fails counted row_number
    commit_by_gate bytes =
        ap (with_trips g) (parted (asked found unsaid bytes g.memory.values) key_order last_order declined (effect (at_row (row_number found)) bytes g.memory))
        ∙ go (refused_by (asked_key found) key_order)
        ∙ ap (λ (w : Way). commit_through w g bytes) (sym (write_gate_checks found))
      where
        go : (o : Option Test) → with_trips g (unless_refused o declined (commit_row (row_number found) bytes g.memory)) ≡ commit_through (unless_refused o no_way (to_row (row_number found))) g bytes
        go none = refl
        go (some t) = refl
