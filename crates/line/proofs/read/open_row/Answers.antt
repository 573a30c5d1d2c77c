-- `line::read::open_row`: each return is one law, given what the calls ensure. Assumes nothing.
use native.Mathlib.Omega.{arith}
use Rattle.table.proofs.Table.{row_rule}
use Rattle.sdo.proofs.Facts.{said}
use Rattle.line.proofs.Reading.{read_short, read_long}
use Rattle.line.proofs.read.open_row.Goals as goal

pub returns-then-is_short : goal.returns-then-is_short
returns-then-is_short c =
    read_short c.args.values.now c.args.row c.len-len.ensures.row c.told-values c.len-len.ensures.len c.args.at c.args.state.now c.args.room.now c.args.k (said c.is_short.ensures c.if-is_short.true) (rw (← c.len-len.ensures.len) at c.short_answer.ensures) c.ended.ensures

pub opened_long-requires : goal.opened_long-requires
opened_long-requires c = omega (arith, (row_rule c.args.row c.len-len.ensures.row).most)

pub returns : goal.returns
returns c =
    read_long c.args.values.now c.args.row c.len-len.ensures.row c.told-values c.len-len.ensures.len c.args.at c.args.state.now c.args.room.now c.args.k (said c.is_short.ensures c.if-is_short.false) c.value_of-held.ensures (rw c.number.ensures.number at c.opened-next.ensures) c.opened_long.ensures c.going.ensures
