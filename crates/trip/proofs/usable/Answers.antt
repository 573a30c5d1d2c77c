-- `trip::usable`: one law for each return. Assumes nothing.
use mathlib.Core.Path.{◌∙◌}
use borrow.Author.Tests.{ne_eqb}
use Rattle.trip.proofs.Pressure.{no_flag, negative, rest}
use Rattle.trip.proofs.usable.Goals as goal

pub returns-then-valid-eq0 : goal.returns-then-valid-eq0
returns-then-valid-eq0 c = rw (no_flag c.args.p c.args.valid c.if-valid-eq0.true)

pub returns-then-p : goal.returns-then-p
returns-then-p c = rw (negative c.args.p c.args.valid c.if-p.true)

pub returns-then-p-2 : goal.returns-then-p-2
returns-then-p-2 c =
    rw (rest c.args.p c.args.valid (ne_eqb c.args.valid 0 c.if-valid-eq0.false) c.if-p.false ∙ c.if-p-2.true)

pub returns : goal.returns
returns c =
    rw (rest c.args.p c.args.valid (ne_eqb c.args.valid 0 c.if-valid-eq0.false) c.if-p.false ∙ c.if-p-2.false)
