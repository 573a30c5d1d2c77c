-- `find::row::Row::place`: out of the row's placing. Assumes nothing.
use Rattle.find.proofs.ColumnLaws.{place-told}
use Rattle.find.proofs.row.Row.place.Goals as goal

pub returns-clause-place : goal.returns-clause-place
returns-clause-place c =
    rw (← c.self.view_is) (place-told c.self.inside.number c.self.invariant.0 c.placing_of.ensures c.from.ensures)
