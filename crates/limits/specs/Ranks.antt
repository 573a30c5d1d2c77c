-- SHAPE: a number against limits that are ranks, their places in the order of the type, as the table's columns have them.
use Rattle.std.specs.Prelude.{cond, ◌&&◌, ℕ, eqb, ltb, leb}
use Rattle.std.specs.Float.{binary32}
use Rattle.std.specs.Float.Ieee.{is_nan, of_bits}
use Rattle.table.specs.Row.{REAL}
use Rattle.table.specs.Rule.{rank}
use Rattle.limits.specs.Limits.{Verdict, within, first_fault}

-- a number that is no NaN goes by its own rank; strings, the card and command words have no limits as numbers
unfoldable pub rank_verdict : ℕ → ℕ → ℕ → ℕ → Verdict
rank_verdict kind low high v =
    cond (leb kind REAL) (first_fault (eqb kind REAL && is_nan (of_bits binary32 v)) (ltb high (rank kind v)) (ltb (rank kind v) low)) within
