-- `find::row::Row::smallest`: out of the row's shape. Assumes nothing.
use Rattle.find.proofs.Shapes.{smallest-told}
use Rattle.find.proofs.row.Row.smallest.Goals as goal

pub returns-clause-smallest : goal.returns-clause-smallest
returns-clause-smallest c =
    rw (← c.self.view_is) (smallest-told c.self.inside.number c.self.invariant.0 c.self.invariant.1 c.smallest_in.ensures)
