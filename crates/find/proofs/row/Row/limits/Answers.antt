-- `find::row::Row::limits`: the row's pair has the ranks of `low` and `high`. Assumes nothing.
use Rattle.std.proofs.Common.{ℕ, ◌∙◌, get_or, ap}
use Rattle.find.specs.Pairs.{minima, maxima}
use Rattle.find.proofs.ColumnLaws.{pair_told, low_by_pair, high_by_pair, pair_within}
use Rattle.find.proofs.row.Row.limits.Goals as goal

pub bounds-pair : goal.bounds-pair
bounds-pair c =
    pair_within c.self.inside.number c.self.invariant.0 c.placing_of.ensures c.from-pair.ensures

pub bounds-pair-2 : goal.bounds-pair-2
bounds-pair-2 c =
    pair_within c.self.inside.number c.self.invariant.0 c.placing_of.ensures c.from-pair.ensures

pub returns-clause-low : goal.returns-clause-low
unfolding minima
returns-clause-low c =
    let e = pair_told c.self.inside.number c.self.invariant.0 c.placing_of.ensures c.from-pair.ensures in
    rw (← c.self.view_is) (ap (λ (p : ℕ). get_or minima p 0) e ∙ low_by_pair c.self.inside.number)

pub returns-clause-high : goal.returns-clause-high
unfolding maxima
returns-clause-high c =
    let e = pair_told c.self.inside.number c.self.invariant.0 c.placing_of.ensures c.from-pair.ensures in
    rw (← c.self.view_is) (ap (λ (p : ℕ). get_or maxima p 0) e ∙ high_by_pair c.self.inside.number (rw (← c.self.view_is) at c.requires))
