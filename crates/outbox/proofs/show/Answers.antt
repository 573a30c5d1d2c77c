-- `outbox::show`: each return is one law, given what the calls ensure. Assumes nothing.
use mathlib.Core.Path.{◌≡◌, sym, ap, ◌∙◌}
use Prim.Native.Nat.{◌+◌, ◌-◌, ◌<◌, ◌≤◌}
use native.Mathlib.Omega.{arith}
use lib.ListN.{length}
use lib.Seq.{length-take-le}
use borrow.Author.Rules.{rules}
use Rattle.wire.proofs.SpliceLaws.{part_length}
use Rattle.table.specs.Row.{CARD, COMMAND}
use Rattle.table.specs.Rows.{at_row}
use Rattle.table.proofs.Table.{row_rule, placed}
use Rattle.transfer.specs.Turns.{filled}
use Rattle.gauge.proofs.CommitLaws.{value_card, value_command}
use Rattle.outbox.proofs.Reading.{shown-stored, shown-held}
use Rattle.outbox.proofs.show.Goals as goal

pub slice_bounds-copy_at-end : goal.slice_bounds-copy_at-end
slice_bounds-copy_at-end c =
    let whole : length c.card_of.result ≡ 64 = search rules in omega (arith, (row_rule c.args.row c.len-len.ensures.row).most)

pub slice_bounds-copy_at-end-in-7 : goal.slice_bounds-copy_at-end-in-7
slice_bounds-copy_at-end-in-7 c =
    let whole : length c.card_of.result ≡ 64 = search rules in
    sym (length-take-le c.len-len.result c.card_of.result (omega (arith, (row_rule c.args.row c.len-len.ensures.row).most)))

pub overflow_add-place : goal.overflow_add-place
overflow_add-place c =
    let k : (at_row c.args.row).kind < CARD = omega arith in omega (arith, placed c.args.row c.len-len.ensures.row k)

pub slice_bounds-copy_at-end-in-0-to-6 : goal.slice_bounds-copy_at-end-in-0-to-6
slice_bounds-copy_at-end-in-0-to-6 c =
    let k : (at_row c.args.row).kind < CARD = omega arith in omega (arith, placed c.args.row c.len-len.ensures.row k, c.told-values)

pub copy_at-requires-in-0-to-6 : goal.copy_at-requires-in-0-to-6
copy_at-requires-in-0-to-6 c =
    let k : (at_row c.args.row).kind < CARD = omega arith in
    let inside : c.place-place.result + (c.place-place.result + c.len-len.result - c.place-place.result) ≤ length c.args.values.now = omega (arith, placed c.args.row c.len-len.ensures.row k, c.told-values) in
    omega (arith, (row_rule c.args.row c.len-len.ensures.row).most, part_length c.args.values.now c.place-place.result (c.place-place.result + c.len-len.result - c.place-place.result) inside)

pub command_at-requires : goal.command_at-requires
command_at-requires c = omega (arith, (row_rule c.args.row c.kind.ensures.row).kind_known)

pub slice_bounds-held-end : goal.slice_bounds-held-end
slice_bounds-held-end c =
    let whole : length c.reading-held.result ≡ 64 = search rules in omega (arith, (row_rule c.args.row c.len-len.ensures.row).most)

pub slice_bounds-copy_at-end-in_default : goal.slice_bounds-copy_at-end-in_default
slice_bounds-copy_at-end-in_default c =
    let whole : length c.reading-held.result ≡ 64 = search rules in
    sym (length-take-le c.len-len.result c.reading-held.result (omega (arith, (row_rule c.args.row c.len-len.ensures.row).most)))

pub returns-in-7 : goal.returns-in-7
returns-in-7 c =
    let card : (at_row c.args.row).kind ≡ CARD = omega arith in
    shown-held c.args.values.now c.args.row c.len-len.ensures.row c.told-values c.args.room.now c.len-len.ensures.len
    (c.card_of.ensures ∙ ap filled (sym (value_card (at_row c.args.row) c.args.values.now card))) c.copy_at.ensures

pub returns-in-0-to-6 : goal.returns-in-0-to-6
returns-in-0-to-6 c =
    let k : (at_row c.args.row).kind < CARD = omega arith in
    let n : c.place-place.result + c.len-len.result - c.place-place.result ≡ c.len-len.result = omega arith in
    shown-stored c.args.values.now c.args.row c.len-len.ensures.row c.told-values c.args.room.now c.len-len.ensures.len k c.place-place.ensures.place (rw n at c.copy_at-in-0-to-6.ensures)

pub returns-in_default : goal.returns-in_default
returns-in_default c =
    let command : (at_row c.args.row).kind ≡ COMMAND = omega (arith, (row_rule c.args.row c.kind.ensures.row).kind_known) in
    shown-held c.args.values.now c.args.row c.len-len.ensures.row c.told-values c.args.room.now c.len-len.ensures.len
    (c.reading-held.ensures ∙ rw c.command_at.ensures (ap filled (sym (value_command (at_row c.args.row) c.args.values.now command)))) c.copy_at-in_default.ensures
