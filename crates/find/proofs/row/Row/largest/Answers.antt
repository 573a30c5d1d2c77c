-- `find::row::Row::largest`: out of the row's shape. Assumes nothing.
use Rattle.find.proofs.Shapes.{largest-told}
use Rattle.find.proofs.row.Row.largest.Goals as goal

pub returns-clause-largest : goal.returns-clause-largest
returns-clause-largest c =
    rw (← c.self.view_is) (largest-told c.self.inside.number c.self.invariant.0 c.self.invariant.1 c.largest_in.ensures)
