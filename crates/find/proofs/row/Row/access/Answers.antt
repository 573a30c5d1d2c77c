-- `find::row::Row::access`: the row's shape has its field `access`. Assumes nothing.
use Rattle.std.proofs.Common.{arith}
use Rattle.table.specs.Access.{access_number}
use Rattle.table.proofs.Table.{row_rule}
use Rattle.find.proofs.Shapes.{access-told}
use Rattle.find.proofs.row.Row.access.Goals as goal

pub returns-in-1 : goal.returns-in-1
unfolding access_number
returns-in-1 c =
    rw (← c.self.view_is) (omega (arith, access-told c.self.inside.number c.self.invariant.0 c.self.invariant.1 c.access_in.ensures))

pub returns-in-2 : goal.returns-in-2
unfolding access_number
returns-in-2 c =
    rw (← c.self.view_is) (omega (arith, access-told c.self.inside.number c.self.invariant.0 c.self.invariant.1 c.access_in.ensures))

pub returns-in_default : goal.returns-in_default
unfolding access_number
returns-in_default c =
    let b = row_rule c.self.inside.number c.self.invariant.0 in
    rw (← c.self.view_is) (omega (arith, access-told c.self.inside.number c.self.invariant.0 c.self.invariant.1 c.access_in.ensures, b.access-some, b.access-most))
