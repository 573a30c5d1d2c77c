-- How long the entries of a type are, by the rule. Assumes nothing.
use mathlib.Core.Path.{◌≡◌, ap, ◌∙◌}
use mathlib.Core.List.{[], ◌∷◌}
use Prim.Native.Nat.{ℕ}
use lib.ListN.{get_or}
use Rattle.table.specs.Row.{Row, ULINT, REAL, CARD}
use Rattle.table.specs.Rule.{width_of}
use Rattle.table.proofs.Rules.{RowRule}

-- the length of each type, as `width_of` has it
abbrev pub length_by : ℕ → ℕ → ℕ
length_by len kind = get_or (1 ∷ 1 ∷ 2 ∷ 4 ∷ 8 ∷ 4 ∷ len ∷ 33 ∷ []) kind len

module _ (r : Row) (rule : RowRule r) where
  pub as_printed : r.len ≡ length_by r.len r.kind
  unfolding width_of
  as_printed = rule.width

  -- of a type that is known
  width_by : (k : ℕ) → r.kind ≡ k → r.len ≡ length_by r.len k
  width_by k e = as_printed ∙ ap (length_by r.len) e

  pub ulint_width : r.kind ≡ ULINT → r.len ≡ 8
  ulint_width e = width_by ULINT e

  pub real-width : r.kind ≡ REAL → r.len ≡ 4
  real-width e = width_by REAL e

  pub card_width : r.kind ≡ CARD → r.len ≡ 33
  card_width e = width_by CARD e
