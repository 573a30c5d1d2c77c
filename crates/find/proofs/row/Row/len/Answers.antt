-- `find::row::Row::len`: the row's shape has its field `len`. Assumes nothing.
use Rattle.find.proofs.Shapes.{len-told}
use Rattle.find.proofs.row.Row.len.Goals as goal

pub returns-clause-len : goal.returns-clause-len
returns-clause-len c =
    rw (← c.self.view_is) (len-told c.self.inside.number c.self.invariant.0 c.self.invariant.1 c.len_in.ensures)
