-- `state::put_tail`: five writes in a row are one. Assumes nothing.
use mathlib.Core.Path.{◌∙◌}
use Rattle.wire.proofs.FlagLaws.{from-bit}
use Rattle.state.proofs.StateLaws.{tail_put}
use Rattle.state.proofs.put_tail.Goals as goal

pub returns : goal.returns
returns c =
    tail_put c.args.state.now c.args.at c.args.t c.requires c.put_number.ensures c.direction_byte.ensures c.put.ensures c.put_number-2.ensures c.put_number-3.ensures (c.from.ensures ∙ from-bit c.args.t.toggle) c.put-2.ensures
