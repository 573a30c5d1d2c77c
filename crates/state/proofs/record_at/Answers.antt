-- `state::record_at`: the bytes of the record, one by one. Assumes nothing.
use Prim.Native.Nat.{◌+◌, ◌-◌}
use native.Mathlib.Omega.{arith}
use mathlib.Core.Path.{◌≡◌, ap, ◌∙◌}
use Rattle.state.proofs.StateLaws.{record_read}
use Rattle.state.specs.State.{direction_of}
use Rattle.state.proofs.record_at.Goals as goal

pub returns : goal.returns
returns c =
    let n : c.args.at + 64 - c.args.at ≡ 64 = omega arith in
    record_read c.args.state.now c.args.at c.requires (rw n at c.copy_at.ensures) (c.from-row.ensures ∙ c.at.ensures) (c.direction_of-direction.ensures ∙ ap direction_of c.at-2.ensures) (c.from-len.ensures ∙ c.at-3.ensures) (c.from-place.ensures ∙ c.at-4.ensures) c.is_set-toggle.ensures
