-- A whole read gives as many bytes as its row says. Assumes nothing.
use mathlib.Core.Path.{◌≡◌, sym, ap, ◌∙◌}
use mathlib.Core.Bool.{Bool, true}
use mathlib.Core.List.{List}
use mathlib.Core.Logic.{◌⊎◌, inl, inr}
use Prim.Native.Nat.{ℕ, ◌<◌}
use native.Mathlib.Omega.{arith}
use lib.Dec.{T, eqb, eqb→eq}
use lib.ListN.{length, take, drop}
use Rattle.table.specs.Row.{Row, no_row, CARD, COMMAND}
use Rattle.table.specs.Rows.{rows, row_count, at_row}
use Rattle.table.specs.Walk.{every}
use Rattle.table.specs.Rule.{pick}
use Rattle.table.proofs.Walks.{every-at, same_or_not}
use Rattle.table.proofs.Table.{row_rule, rows-length}
use Rattle.entry.specs.Entry.{entry_of}
use Rattle.entry.proofs.EntryLaws.{entry_length}
use Rattle.card.proofs.Made.{length_card}
use Rattle.command.specs.Words.{command_at, read_word}
use Rattle.gauge.specs.Whole.{value_of}
use Rattle.gauge.proofs.CommitLaws.{value_card, value_command, value_other, card_length, other_held}

-- computed once over the table: a command word's printed value has the row's length
word_fits : Row → Bool
word_fits r = pick (eqb r.kind COMMAND) (eqb (length (read_word (command_at r.index))) r.len) true

words_fit : T (every word_fits rows)
unfolding every word_fits pick rows read_word command_at
words_fit = tt

word_length : (k : ℕ) → k < row_count → (at_row k).kind ≡ COMMAND → length (read_word (command_at (at_row k).index)) ≡ (at_row k).len
unfolding word_fits pick
word_length k h e = eqb→eq _ _ (rw e at (every-at word_fits rows no_row words_fit k (omega (arith, rows-length))))

pub value-length : (k : ℕ) → k < row_count → (values : List ℕ) → length values ≡ 1024 → length (value_of (at_row k) values) ≡ (at_row k).len
value-length k h values n = go (same_or_not (at_row k).kind CARD) (same_or_not (at_row k).kind COMMAND)
  where
    go : ((at_row k).kind ≡ CARD) ⊎ ((at_row k).kind ≡ CARD → ⊥) → ((at_row k).kind ≡ COMMAND) ⊎ ((at_row k).kind ≡ COMMAND → ⊥) → length (value_of (at_row k) values) ≡ (at_row k).len
    go (inl c) d =
        ap length (value_card (at_row k) values c)
        ∙ length_card values ∙ sym (card_length k h c)
    go (inr c) (inl d) =
        ap length (value_command (at_row k) values d)
        ∙ word_length k h d
    go (inr c) (inr d) =
        ap length (value_other (at_row k) values c d)
        ∙ entry_length (at_row k) values (let i = (row_rule k h).inside in omega arith) ∙ other_held k h c d

-- an entry that is stored reads as its bytes in the values
pub stored-value : (k : ℕ) → k < row_count → (values : List ℕ) → (at_row k).kind < CARD → value_of (at_row k) values ≡ take (at_row k).len (drop (at_row k).place values)
unfolding entry_of
stored-value k h values l =
    let n : (at_row k).kind ≡ CARD → ⊥ = λ e. omega arith in
    let m : (at_row k).kind ≡ COMMAND → ⊥ = λ e. omega arith in
    value_other (at_row k) values n m
    ∙ ap (λ (j : ℕ). take j (drop (at_row k).place values)) (other_held k h n m)
