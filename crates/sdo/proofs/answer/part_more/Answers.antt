-- `part_more` meets its contract: the bytes, taken one by one, are the part.
use mathlib.Core.Path.{◌≡◌, refl, sym, ap, ◌∙◌}
use mathlib.Core.Bool.{Bool}
use Prim.Native.Nat.{◌*◌}
use native.Mathlib.Omega.{arith}
use Rattle.wire.specs.Flags.{bit}
use Rattle.sdo.specs.Eight.{}
use Rattle.sdo.proofs.Facts.{part-laid}
use Rattle.sdo.proofs.answer.part_more.Goals as goal
use Rattle.sdo.proofs.answer.part_more.Goals.{then-toggle, else-toggle}

pub returns : goal.returns
returns c =
    let head : c.if-toggle.head ≡ 16 * bit c.args.toggle =
    elim c.if-toggle.branch [ then-toggle w ↦ w.head-is ∙ ap (λ (b : Bool). 16 * bit b) (sym w.if-toggle.true) | else-toggle w ↦ w.head-is ∙ ap (λ (b : Bool). 16 * bit b) (sym w.if-toggle.false) ] in
    part-laid c.args.held.now c.args.place c.args.toggle _ _ _ _ _ _ _ _ _ (omega (arith, head, c.requires)) refl refl refl refl refl refl refl
