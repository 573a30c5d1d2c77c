-- `find::row::Row::is_nv`: the row's shape has its field `nv`. Assumes nothing.
use Rattle.std.proofs.Common.{ℕ, ap}
use Rattle.std.specs.Prelude.{eqb}
use Rattle.find.proofs.Shapes.{nv-told}
use Rattle.find.proofs.row.Row.is_nv.Goals as goal

pub returns : goal.returns
returns c =
    ap (λ (n : ℕ). eqb n 1) (rw (← c.self.view_is) (nv-told c.self.inside.number c.self.invariant.0 c.self.invariant.1 c.nv_in.ensures))
