-- `gate::lock::refuses`: the row is looked at only where the lock is 1. Assumes nothing.
use mathlib.Core.Bool.{Bool, ◌&&◌, and-true, and-false}
use mathlib.Core.Path.{sym, ap, ◌∙◌}
use borrow.Author.Tests.{eq-eqb, ne_eqb}
use Rattle.table.specs.Rows.{at_row}
use Rattle.gate.specs.Lock.{guarded, locked}
use Rattle.gate.proofs.lock.refuses.Goals as goal

pub returns-then-at-eq1 : goal.returns-then-at-eq1
unfolding locked
returns-then-at-eq1 c = c.guards.ensures ∙ sym (ap (λ (b : Bool). guarded (at_row c.args.row) && b) (eq-eqb _ 1 (sym c.at.ensures ∙ c.if-at-eq1.true)) ∙ and-true (guarded (at_row c.args.row)))

pub returns : goal.returns
unfolding locked
returns c = sym (ap (λ (b : Bool). guarded (at_row c.args.row) && b) (ne_eqb _ 1 (λ e. c.if-at-eq1.false (c.at.ensures ∙ e))) ∙ and-false (guarded (at_row c.args.row)))
