-- `state::put_part`: the part and the tail are the record with the part. Assumes nothing.
use native.Mathlib.Omega.{arith}
use Rattle.state.proofs.StateLaws.{part_put}
use Rattle.state.proofs.put_part.Goals as goal

pub returns : goal.returns
returns c =
    part_put c.args.state.now c.args.at c.args.t c.args.part.now c.requires.0 c.requires.1 (omega (arith, c.requires.2)) c.copy_part.ensures c.grown.ensures c.put_tail.ensures
