-- `find::row::Row::kind`: the row's shape has its field `kind`. Assumes nothing.
use Rattle.find.proofs.Shapes.{kind-told}
use Rattle.find.proofs.row.Row.kind.Goals as goal

pub returns-clause-kind : goal.returns-clause-kind
returns-clause-kind c =
    rw (← c.self.view_is) (kind-told c.self.inside.number c.self.invariant.0 c.self.invariant.1 c.kind_in.ensures)
