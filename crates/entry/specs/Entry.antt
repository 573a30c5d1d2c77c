-- RULE: one row's entry in the values (R1.3, R1.6): what it reads as, what storing and its default make of the values.
use Rattle.std.specs.Prelude.{List, [], ◌∷◌, ℕ, leb, take, drop, replicate}
use Rattle.wire.specs.Splice.{splice}
use Rattle.wire.specs.Little.{little}
use Rattle.table.specs.Row.{Row, CARD}
use Rattle.table.specs.Rule.{pick, held}

-- `held`, by the type and the length alone
unfoldable pub held_by : ℕ → ℕ → ℕ
held_by kind len = pick (leb CARD kind) 0 len

-- a row's bytes in the values; the card and the command words have none (R1.3)
unfoldable pub entry_of : Row → List ℕ → List ℕ
entry_of r values = take (held r) (drop r.place values)

-- an entry as it is held (R5.3): 64 bytes, the row's first, then zeros
unfoldable pub copied : Row → List ℕ → List ℕ
copied r values = splice (replicate 64 0) 0 (entry_of r values)

-- the values with these bytes as the row's
unfoldable pub with_entry : Row → List ℕ → List ℕ → List ℕ
with_entry r values bytes = splice values r.place bytes

-- a row's default (R2.1, R2.7)
unfoldable pub default_of : Row → List ℕ
default_of r = little (held r) r.def

unfoldable pub defaulted : Row → List ℕ → List ℕ
defaulted r values = with_entry r values (default_of r)

-- all defaults, in the order of the table (R9.1)
unfoldable pub defaults : List Row → List ℕ → List ℕ
defaults [] values = values
defaults (r ∷ rs) values = defaults rs (defaulted r values)
