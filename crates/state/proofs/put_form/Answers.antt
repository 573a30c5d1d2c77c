-- `state::put_form`: one flag. Assumes nothing.
use mathlib.Core.Path.{ap, ◌∙◌}
use Prim.Native.Nat.{ℕ}
use Rattle.wire.specs.Splice.{splice}
use Rattle.wire.specs.Little.{little}
use Rattle.wire.proofs.FlagLaws.{from-bit}
use Rattle.state.proofs.put_form.Goals as goal

pub returns : goal.returns
returns c =
    c.put.ensures ∙ ap (λ (n : ℕ). splice c.args.state.now 196 (little 1 n)) (c.from.ensures ∙ from-bit c.args.boxed)
