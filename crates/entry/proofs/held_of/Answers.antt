-- `held_of`: the row's width by the rule, and its room.
use Rattle.std.proofs.Common.{◌∙◌, arith}
use Rattle.table.specs.Rows.{at_row}
use Rattle.table.proofs.Table.{row_rule}
use Rattle.entry.proofs.RowLaws.{held-most, held-from}
use Rattle.entry.proofs.held_of.Goals as goal

pub returns : goal.returns
returns c =
    let r = at_row c.args.row in
    let u = row_rule c.args.row c.kind.ensures.row in
    let h = c.held_by.ensures ∙ held-from r c.kind.ensures.kind c.len.ensures.len in
    record {
      held = h;
      most = omega (arith, h, held-most r u);
      inside = omega (arith, h, u.inside);
    }
