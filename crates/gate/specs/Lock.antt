-- RULE: the lock (R7.9). Assumes nothing.
use Rattle.std.specs.Prelude.{Bool, ◌&&◌, ◌||◌, List, ℕ, eqb}
use Rattle.wire.specs.Little.{number}
use Rattle.table.specs.Row.{Row, CARD, COMMAND}
use Rattle.table.specs.Places.{lock}

-- 2003 itself is neither NV nor card nor command word
unfoldable pub guarded : Row → Bool
guarded r = eqb r.nv 1 || (eqb r.kind CARD || (eqb r.kind COMMAND && eqb r.index 0xFBF4))

unfoldable pub locked : Row → List ℕ → Bool
locked r values = guarded r && eqb (number values lock 1) 1
