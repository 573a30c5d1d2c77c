-- `is_crossed`: one point after the other.
use mathlib.Core.Path.{◌∙◌, ap}
use Rattle.card.specs.Asked.{fields_crossed}
use Rattle.enter.proofs.is_crossed.Goals as goal

pub returns-then-point_crossed : goal.returns-then-point_crossed
returns-then-point_crossed c = rw (← c.fields_1-one.ensures, ← c.point_crossed.ensures, c.if-point_crossed.true)

pub returns : goal.returns
returns c =
    rw (← c.fields_1-one.ensures, ← c.point_crossed.ensures, c.if-point_crossed.false) (c.point_crossed-2.ensures ∙ ap fields_crossed c.fields_2-two.ensures)
