-- The summary and what is written beside it: working it out leaves every other entry, and a summary that is the one of active word and mask
-- stays so. Assumes nothing.
use mathlib.Core.Path.{◌≡◌, refl, sym, ap, ap₂, ◌∙◌}
use mathlib.Core.Bool.{Bool, true, false, ◌&&◌, and-false, and-eq-true_iff}
use mathlib.Core.List.{List, [], ◌∷◌}
use Prim.Native.Nat.{ℕ, ◌<◌}
use native.Mathlib.Omega.{arith}
use lib.Dec.{T, leb, eqb}
use lib.Ieee.{Float}
use lib.Ieee.Bits.{is_true}
use lib.ListN.{length, replicate}
use borrow.Author.Tests.{le-leb, ne_eqb}
use Rattle.wire.specs.Splice.{splice, apart}
use Rattle.wire.specs.Little.{little, from_little, number}
use Rattle.wire.proofs.LittleLaws.{length-little, from_little-little, put_length, number-apart}
use Rattle.wire.proofs.Writes.{Write, write, number-shown}
use Rattle.table.specs.Row.{Row, no_row, RO}
use Rattle.table.specs.Rows.{rows, row_count, at_row}
use Rattle.table.specs.Rule.{pick, held}
use Rattle.table.specs.Walk.{every}
use Rattle.table.specs.Find.{find_from, find_row, row_number}
use Rattle.table.specs.Places.{active_word, is_mask, error_mask, summary_byte}
use Rattle.table.proofs.Walks.{every-at}
use Rattle.table.proofs.Table.{rows-length, row_rule}
use Rattle.entry.specs.Entry.{entry_of, with_entry, default_of, defaulted, defaults}
use Rattle.entry.proofs.Entries.{row_store_length, row_store_read, row_store_other, defaults-length, default_read}
use Rattle.card.specs.Card.{with_card}
use Rattle.card.proofs.Stored.{with_card_beside}
use Rattle.block.specs.Saved.{loadable, loaded}
use Rattle.block.proofs.Theorems.{length-loaded, faulty_leaves, load_other}
use Rattle.trip.specs.declared.Trips.{Trips}
use Rattle.sample.specs.Faults.{all_hidden, summary_of, summary_in, with_summary}
use Rattle.sample.specs.Sample.{values_after}
use Rattle.sample.proofs.SampleLaws.{summary_fits, active_shown, summary_shown, mask_stays}
use Rattle.gauge.specs.Masks.{heeding, Summed}
use Rattle.gauge.specs.PowerUp.{block_taken, fresh_values}
use Rattle.gauge.proofs.Spared.{spared, spare}

-- ---- what working it out leaves

abbrev pub is_summary : Row → Bool
is_summary r = eqb r.index 0xF380

-- computed once over the table
summary_spared : T (every (spared is_summary summary_byte 1) rows)
unfolding every spared pick held rows
summary_spared = tt

module _ (values : List ℕ) (long : length values ≡ 1024) where
  pub summary_length : length (with_summary values) ≡ 1024
  unfolding with_summary
  summary_length = put_length values summary_byte 1 _ (rw long) ∙ long

  pub summary_leaves : (j : ℕ) → j < row_count → is_summary (at_row j) ≡ false → entry_of (at_row j) (with_summary values) ≡ entry_of (at_row j) values
  unfolding with_summary
  summary_leaves = spare is_summary summary_byte 1 summary_spared values (little 1 _) (rw long) (length-little 1 _)

  heeding-length : (came : Bool) → length (heeding came values) ≡ 1024
  unfolding heeding
  heeding-length true = summary_length
  heeding-length false = long

  -- where no masks came in, the summary too
  pub heeding_leaves : (came : Bool) (j : ℕ) → j < row_count → came && is_summary (at_row j) ≡ false → entry_of (at_row j) (heeding came values) ≡ entry_of (at_row j) values
  unfolding heeding
  heeding_leaves true j h e = summary_leaves j h e
  heeding_leaves false j h e = refl

  -- ---- the summary that is worked out is the one of active word and mask

  pub summed_anew : Summed (with_summary values)
  unfolding with_summary
  summed_anew =
      let v : ℕ = summary_in values in
      let ws : List Write = write summary_byte 1 v ∷ [] in
      number-shown ws values 1024 summary_byte 1 long refl refl
      ∙ from_little-little 1 v (summary_fits (number values active_word 4) (number values error_mask 4))
      ∙ sym (ap₂ summary_of (number-shown ws values 1024 active_word 4 long refl refl) (number-shown ws values 1024 error_mask 4 long refl refl))

-- ---- and stays so

-- the n bytes from a place on are apart from summary, active word and mask
abbrev pub beside : ℕ → ℕ → Bool
beside at n = apart at n summary_byte 1 && (apart at n active_word 4 && apart at n error_mask 4)

by_numbers : (x l : List ℕ) → number x summary_byte 1 ≡ number l summary_byte 1 → number x active_word 4 ≡ number l active_word 4 → number x error_mask 4 ≡ number l error_mask 4
    → Summed l → Summed x
by_numbers x l s a m h = s ∙ h ∙ sym (ap₂ summary_of a m)

pub summed_beside : (l : List ℕ) (at : ℕ) (bytes : List ℕ) → leb at (length l) ≡ true → beside at (length bytes) ≡ true → Summed l → Summed (splice l at bytes)
summed_beside l at bytes room far =
    let s = (and-eq-true_iff (apart at (length bytes) summary_byte 1) _).0 far in
    let r = (and-eq-true_iff (apart at (length bytes) active_word 4) _).0 s.1 in
    by_numbers (splice l at bytes) l (number-apart l at bytes summary_byte 1 room s.0) (number-apart l at bytes active_word 4 room r.0) (number-apart l at bytes error_mask 4 room r.1)

pub card_summed : (values card : List ℕ) → length values ≡ 1024 → Summed values → Summed (with_card values card)
unfolding number
card_summed values card long =
    by_numbers (with_card values card) values (ap from_little (with_card_beside values card long summary_byte 1 refl)) (ap from_little (with_card_beside values card long active_word 4 refl)) (ap from_little (with_card_beside values card long error_mask 4 refl))

pub sample_summed : (l : List ℕ) (was : Trips) (p : Float) (valid faults seconds : ℕ) → length l ≡ 1024 → Summed (values_after l was p valid faults seconds)
sample_summed l was p valid faults seconds h =
    summary_shown l was p valid faults seconds h
    ∙ sym (ap₂ summary_of (active_shown l was p valid faults seconds h) (mask_stays l was p valid faults seconds h))

-- ---- an entry that may be written

-- it is a mask, or apart from the three
harmless : Row → Bool
harmless r = pick (eqb r.access RO) true (pick (is_mask r) true (beside r.place (held r)))

-- computed once over the table
all_harmless : T (every harmless rows)
unfolding every harmless pick held is_mask rows
all_harmless = tt

-- no row is a mask and the summary
not-both : (r : Row) → is_mask r && is_summary r ≡ false
unfolding is_mask
not-both r = go (is_mask r) refl
  where
    go : (b : Bool) → is_mask r ≡ b → b && is_summary r ≡ false
    go true e = ne_eqb r.index 0xF380 (λ q. let z : false ≡ true = rw q at e in let y : ◌≡◌ {A = ℕ} 0 1 = cc in omega arith)
    go false e = refl

module _ (k : ℕ) (there : k < row_count) (values bytes : List ℕ) (long : length values ≡ 1024) (fit : length bytes ≡ held (at_row k)) where
  abbrev with-bytes : List ℕ
  with-bytes = with_entry (at_row k) values bytes

  bytes_long : length with-bytes ≡ 1024
  bytes_long = row_store_length k there values bytes long fit

  -- the values after the write of a row that is stored
  abbrev after_write : List ℕ
  after_write = heeding (is_mask (at_row k)) with-bytes

  pub written-length : length after_write ≡ 1024
  written-length = heeding-length with-bytes bytes_long (is_mask (at_row k))

  pub written_read : entry_of (at_row k) after_write ≡ bytes
  written_read = heeding_leaves with-bytes bytes_long (is_mask (at_row k)) k there (not-both (at_row k)) ∙ row_store_read k there values bytes long fit

  -- every other entry, but the summary where a mask is written
  pub written_leaves : (j : ℕ) → j < row_count → (k ≡ j → ⊥) → is_mask (at_row k) && is_summary (at_row j) ≡ false → entry_of (at_row j) after_write ≡ entry_of (at_row j) values
  written_leaves j h d e = heeding_leaves with-bytes bytes_long (is_mask (at_row k)) j h e ∙ row_store_other k there values bytes long fit j h d

  pub written_summed : eqb (at_row k).access RO ≡ false → Summed values → Summed after_write
  unfolding heeding with_entry harmless pick
  written_summed writable h = go (is_mask (at_row k)) refl
    where
      test : T (harmless (at_row k))
      test = every-at harmless rows no_row all_harmless k (omega (arith, rows-length))

      go : (b : Bool) → is_mask (at_row k) ≡ b → Summed (heeding b with-bytes)
      go true e = summed_anew with-bytes bytes_long
      go false e =
          summed_beside values (at_row k).place bytes (le-leb (at_row k).place (length values) (omega (arith, (row_rule k there).inside))) (rw fit (is_true _ (rw (writable, e) at test))) h

-- ---- a load and power-up

pub taken-length : (block values : List ℕ) → length values ≡ 1024 → length (block_taken block values) ≡ 1024
unfolding block_taken
taken-length block values long = heeding-length (loaded block values) (length-loaded block values long) (loadable block)

pub taken_summed : (block values : List ℕ) → length values ≡ 1024 → Summed values → Summed (block_taken block values)
unfolding block_taken heeding
taken_summed block values long h = go (loadable block) refl
  where
    go : (b : Bool) → loadable block ≡ b → Summed (heeding b (loaded block values))
    go true e = summed_anew (loaded block values) (length-loaded block values long)
    go false e = rw (faulty_leaves block values e) h

-- computed: the defaults have no fault and no mask
defaults_summed : Summed (defaults rows (replicate 1024 0))
unfolding splice little from_little number held pick entry_of with_entry default_of defaulted defaults all_hidden summary_of rows
defaults_summed = refl

pub fresh-length : (block : List ℕ) → length (fresh_values block) ≡ 1024
unfolding fresh_values
fresh-length block = taken-length block _ (defaults-length (replicate 1024 0) refl)

pub fresh_summed : (block : List ℕ) → Summed (fresh_values block)
unfolding fresh_values
fresh_summed block = taken_summed block _ (defaults-length (replicate 1024 0) refl) defaults_summed

-- an entry that is neither NV nor the summary has its default
pub fresh-read : (block : List ℕ) (j : ℕ) → j < row_count → ((at_row j).nv ≡ 1 → ⊥) → is_summary (at_row j) ≡ false → entry_of (at_row j) (fresh_values block) ≡ default_of (at_row j)
unfolding fresh_values block_taken
fresh-read block j h d e =
    let fresh : List ℕ = defaults rows (replicate 1024 0) in
    let long : length fresh ≡ 1024 = defaults-length (replicate 1024 0) refl in
    heeding_leaves (loaded block fresh) (length-loaded block fresh long) (loadable block) j h (rw e (and-false (loadable block))) ∙ load_other block fresh long j h d ∙ default_read (replicate 1024 0) refl j h

-- the row of F383:01
abbrev active_row : ℕ
active_row = row_number (find_row 0xF383 0x01)

no_fault : (block : List ℕ) → number (fresh_values block) active_word 4 ≡ 0
unfolding row_number find_row find_from rows entry_of held pick default_of little from_little number
no_fault block = ap from_little (fresh-read block active_row (omega arith) (λ e. absurd (omega arith)) refl)

-- so there is no fault, and nothing to show
pub fresh_summary : (block : List ℕ) → number (fresh_values block) summary_byte 1 ≡ 0
unfolding all_hidden summary_of
fresh_summary block = fresh_summed block ∙ ap (λ (a : ℕ). summary_of a (number (fresh_values block) error_mask 4)) (no_fault block)
