-- `gauge::crossing::entry_crosses`: where the place is the point's. Assumes nothing.
use mathlib.Core.Path.{sym, ◌∙◌}
use native.Mathlib.Omega.{arith}
use Rattle.gauge.proofs.crossing.entry_crosses.Goals as goal

pub is_after-requires : goal.is_after-requires
is_after-requires c =
    (omega arith, c.requires.2 (sym c.is_among.ensures ∙ c.if-is_among.true))

pub returns-then-is_among : goal.returns-then-is_among
returns-then-is_among c = rw (← c.is_among.ensures, c.if-is_among.true) c.is_after.ensures

pub returns : goal.returns
returns c = rw (← c.is_among.ensures, c.if-is_among.false)
