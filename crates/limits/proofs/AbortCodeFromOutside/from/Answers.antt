-- `from` gives what is refused for each fault: one way out for each.
use mathlib.Core.Path.{ap, sym}
use Rattle.limits.specs.Limits.{abort_for}
use Rattle.limits.proofs.AbortCodeFromOutside.from.Goals as goal

pub returns-in-NotANumber : goal.returns-in-NotANumber
unfolding abort_for
returns-in-NotANumber c = ap abort_for (sym c.in-NotANumber.is)

pub returns-in-Above : goal.returns-in-Above
unfolding abort_for
returns-in-Above c = ap abort_for (sym c.in-Above.is)

pub returns-in-Below : goal.returns-in-Below
unfolding abort_for
returns-in-Below c = ap abort_for (sym c.in-Below.is)
