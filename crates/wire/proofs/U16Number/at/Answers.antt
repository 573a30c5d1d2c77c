-- `wire::U16Number::at`: two bytes and their number. Assumes nothing.
use native.Mathlib.Omega.{arith}
use Rattle.wire.proofs.Stores.{two_bytes}
use Rattle.wire.proofs.U16Number.at.Goals as goal

pub returns : goal.returns
returns c = omega (arith, two_bytes c.args.s.now c.args.at)
