-- `outbox::open_row`: each return is one law, given what the calls ensure. Assumes nothing.
use mathlib.Core.Path.{refl}
use native.Mathlib.Omega.{arith}
use Rattle.table.proofs.Table.{row_rule}
use Rattle.sdo.proofs.Facts.{said, short_bounds}
use Rattle.outbox.proofs.Reading.{box_short, box_long}
use Rattle.outbox.proofs.open_row.Goals as goal

pub returns-then-is_short : goal.returns-then-is_short
returns-then-is_short c =
    let short = said c.is_short.ensures c.if-is_short.true in
    box_short c.args.values.now c.args.row c.len-len.ensures.row c.told-values c.len-len.ensures.len (omega (arith, (row_rule c.args.row c.len-len.ensures.row).most)) c.args.at c.args.state.now c.args.room.now c.args.k short (short_bounds c.len-len.result short).1 (rw (← c.len-len.ensures.len) at c.short_answer-eight.ensures) c.ended.ensures

pub opened_long-requires : goal.opened_long-requires
opened_long-requires c = omega (arith, (row_rule c.args.row c.len-len.ensures.row).most)

pub overflow_add-result : goal.overflow_add-result
overflow_add-result c = omega (arith, (row_rule c.args.row c.len-len.ensures.row).most)

pub returns : goal.returns
returns c =
    box_long c.args.values.now c.args.row c.len-len.ensures.row c.told-values c.len-len.ensures.len (omega (arith, (row_rule c.args.row c.len-len.ensures.row).most)) c.args.at c.args.state.now c.args.room.now c.args.k (said c.is_short.ensures c.if-is_short.false) c.opened_long.ensures c.requires.1 c.ended-2.ensures c.show.ensures refl
