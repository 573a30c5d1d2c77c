-- `wire::U32Number::at`: four bytes and their number. Assumes nothing.
use native.Mathlib.Omega.{arith}
use Rattle.wire.proofs.Stores.{four_bytes}
use Rattle.wire.proofs.U32Number.at.Goals as goal

pub returns : goal.returns
returns c = omega (arith, four_bytes c.args.s.now c.args.at)
