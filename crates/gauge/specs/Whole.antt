-- RULE: THE PLAIN GAUGE'S WHOLE READ AND WHOLE WRITE of one row (R15.6). Assumes nothing.
use Rattle.std.specs.Prelude.{cond, List, ◌++◌, ℕ, eqb}
use Rattle.order.specs.Talk.{unsaid, Read, value, denied, Sizes, sizes, closed, Outcome, stored, restarted, declined}
use Rattle.table.specs.Row.{Row, smallest, largest, CARD, COMMAND}
use Rattle.table.specs.Find.{find_row}
use Rattle.entry.specs.Entry.{entry_of}
use Rattle.card.specs.Card.{card_of}
use Rattle.trip.specs.Trip.{all_off}
use Rattle.command.specs.Words.{command_at, read_word}
use Rattle.gauge.specs.Memory.{Memory, Store, with_values}
use Rattle.gauge.specs.Written.{with_value}
use Rattle.gauge.specs.Commands.{obeyed}
use Rattle.gauge.specs.Checks.{Asked, asked, asked_key, asked_last, row_asked, sent, Test, read_order, key_order, last_order, write_order, refused_by, unless_refused}

-- ---- reading

-- the entry's value as it is now: the card is a view, a command word has its printed value, all else is stored
unfoldable pub value_of : Row → List ℕ → List ℕ
value_of r values = cond (eqb r.kind CARD) (card_of values) (cond (eqb r.kind COMMAND) (read_word (command_at r.index)) (entry_of r values))

unfoldable pub read_checked : Store → Asked → Read
read_checked g a = unless_refused (refused_by a read_order) denied (value (value_of (row_asked a) g.memory.values))

unfoldable pub read_whole : Store → ℕ → ℕ → Read
read_whole g index sub = read_checked g (asked_key (find_row index sub))

-- ---- writing

-- the lengths that a write may have, by its key
unfoldable pub sizes_checked : Asked → Sizes
sizes_checked a = unless_refused (refused_by a key_order) closed (sizes (smallest (row_asked a)) (largest (row_asked a)))

unfoldable pub write_sizes : ℕ → ℕ → Sizes
write_sizes index sub = sizes_checked (asked_key (find_row index sub))

-- what an accepted write does
unfoldable pub effect : Row → List ℕ → Memory → Outcome Memory
effect r bytes m = cond (eqb r.kind COMMAND) (obeyed (command_at r.index) bytes m) (stored (with_values m (with_value r m.values bytes)))

-- a write that is refused by the first of some tests, or done
unfoldable pub write_by : List Test → Asked → Memory → Outcome Memory
write_by order a m = unless_refused (refused_by a order) declined (effect (row_asked a) (sent a) m)

-- at the last message to a row
unfoldable pub commit_row : ℕ → List ℕ → Memory → Outcome Memory
commit_row row bytes m = write_by last_order (asked_last row bytes m.values) m

-- ---- the gauge with its trip states

-- a command other than device reset leaves them; device reset turns them off
unfoldable pub with_trips : Store → Outcome Memory → Outcome Store
with_trips g (stored m) = stored (record { memory = m; trips = g.trips })
with_trips g (restarted m) = restarted (record { memory = m; trips = all_off })
with_trips g (declined code) = declined code

-- bytes of a length that is allowed, to the entry with a key
unfoldable pub commit_whole : Store → ℕ → ℕ → List ℕ → Outcome Store
commit_whole g index sub bytes = with_trips g (write_by (key_order ++ last_order) (asked (find_row index sub) unsaid bytes g.memory.values) g.memory)

-- all that is asked of a write at once
unfoldable pub write_checked : Store → Asked → Outcome Store
write_checked g a = with_trips g (write_by write_order a g.memory)
