-- `line::read::short_answer`: from the values or from a copy, the value; the card is longer than four bytes. Assumes nothing.
use mathlib.Core.Path.{◌≡◌, sym, ap, ap₂, ◌∙◌}
use mathlib.Core.List.{List}
use mathlib.Core.Bool.{true}
use Prim.Native.Nat.{ℕ, ◌+◌, ◌-◌, ◌<◌, ◌≤◌}
use native.Mathlib.Omega.{arith}
use lib.ListN.{take, drop}
use Rattle.order.specs.Talk.{opened}
use Rattle.table.specs.Row.{CARD, COMMAND}
use Rattle.table.specs.Rows.{row_count, at_row}
use Rattle.table.proofs.Table.{row_rule, placed}
use Rattle.table.proofs.Widths.{card_width}
use Rattle.transfer.specs.Turns.{filled}
use Rattle.gauge.proofs.CommitLaws.{value_command}
use Rattle.sdo.specs.Eight.{answer_of}
use Rattle.line.proofs.Reading.{shown-whole, shown-part}
use Rattle.line.proofs.read.short_answer.Goals as goal

is_command : (row : ℕ) → row < row_count → (at_row row).len ≤ 4 → CARD ≤ (at_row row).kind → (at_row row).kind ≡ COMMAND
is_command row h l k =
    let no-card : (at_row row).kind ≡ CARD → ⊥ = λ e. omega (arith, card_width (at_row row) (row_rule row h) e) in
    omega (arith, (row_rule row h).kind_known)

pub overflow_add-place : goal.overflow_add-place
overflow_add-place c =
    let k : (at_row c.args.row).kind < CARD = omega arith in
    omega (arith, placed c.args.row c.kind.ensures.row k)

pub slice_bounds-opened_short-end : goal.slice_bounds-opened_short-end
slice_bounds-opened_short-end c =
    let k : (at_row c.args.row).kind < CARD = omega arith in
    omega (arith, placed c.args.row c.kind.ensures.row k, c.told-values)

pub returns-then-kind-lt-CARD : goal.returns-then-kind-lt-CARD
returns-then-kind-lt-CARD c =
    let k : (at_row c.args.row).kind < CARD = omega arith in
    let n : c.place-place.result + c.len-len.result - c.place-place.result ≡ c.len-len.result = omega arith in
    c.opened_short.ensures
    ∙ ap₂ (λ (n : ℕ) (l : List ℕ). answer_of (opened c.args.k n l true)) c.len-len.ensures.len
    (shown-part c.args.values.now c.args.row c.kind.ensures.row c.told-values c.len-len.ensures.len k (ap₂ (λ (m a : ℕ). take m (drop a c.args.values.now)) n c.place-place.ensures.place))

pub command_at-requires : goal.command_at-requires
command_at-requires c = is_command c.args.row c.kind.ensures.row (omega arith) (omega arith)

pub returns : goal.returns
returns c =
    let k = is_command c.args.row c.kind.ensures.row (omega arith) (omega arith) in
    let v = c.reading-held.ensures ∙ rw c.command_at.ensures (ap filled (sym (value_command (at_row c.args.row) c.args.values.now k))) in
    c.opened_short-2.ensures
    ∙ ap₂ (λ (n : ℕ) (l : List ℕ). answer_of (opened c.args.k n l true)) c.len-len.ensures.len
    (shown-whole c.args.values.now c.args.row c.kind.ensures.row c.told-values c.len-len.ensures.len v)
