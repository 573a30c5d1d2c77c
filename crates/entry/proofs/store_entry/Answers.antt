-- `store_entry` leaves `with_entry`: the rule keeps the copy inside the values.
use Rattle.std.proofs.Common.{arith}
use Rattle.table.specs.Rows.{at_row}
use Rattle.table.proofs.Table.{row_rule}
use Rattle.entry.proofs.Writes.{stored_is}
use Rattle.entry.proofs.store_entry.Goals as goal

pub returns-clause-values : goal.returns-clause-values
returns-clause-values c =
    stored_is (at_row c.args.row) c.args.values.now c.place-place.ensures.place c.args.value.now c.copy_at.ensures

pub copy_at-requires : goal.copy_at-requires
copy_at-requires c =
    let u = row_rule c.args.row c.place-place.ensures.row in
    omega (arith, u.inside, c.place-place.ensures.place)
