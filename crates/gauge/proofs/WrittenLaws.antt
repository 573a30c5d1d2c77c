-- The values with a value written, by whether it is the card. Assumes nothing.
use mathlib.Core.Path.{◌≡◌}
use mathlib.Core.List.{List}
use mathlib.Core.Logic.{⊎_elim}
use borrow.Author.Tests.{eq-eqb, ne_eqb}
use Prim.Native.Nat.{ℕ}
use Rattle.table.specs.Row.{Row, CARD}
use Rattle.table.specs.Places.{is_mask}
use Rattle.table.proofs.Walks.{same_or_not}
use Rattle.entry.specs.Entry.{with_entry}
use Rattle.card.specs.Card.{with_card}
use Rattle.gauge.specs.Masks.{heeding}
use Rattle.gauge.specs.Written.{with_value}

module _ (r : Row) (values bytes : List ℕ) where
  pub written_card : r.kind ≡ CARD → with_value r values bytes ≡ with_card values bytes
  unfolding with_value
  written_card e = rw (eq-eqb r.kind CARD e)

  pub written_entry : (r.kind ≡ CARD → ⊥) → with_value r values bytes ≡ heeding (is_mask r) (with_entry r values bytes)
  unfolding with_value
  written_entry n = rw (ne_eqb r.kind CARD n)

  -- what holds in both cases
  pub by_card : (Q : List ℕ → Type 0) → (r.kind ≡ CARD → Q (with_card values bytes)) → ((r.kind ≡ CARD → ⊥) → Q (heeding (is_mask r) (with_entry r values bytes))) → Q (with_value r values bytes)
  by_card Q card entry = ⊎_elim (λ e. rw (written_card e) (card e)) (λ n. rw (written_entry n) (entry n)) (same_or_not r.kind CARD)
