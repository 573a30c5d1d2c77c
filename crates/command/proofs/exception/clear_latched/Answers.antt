-- `command::exception::clear_latched`: zeros, then the summary. Assumes nothing.
use Prim.Native.Nat.{◌+◌}
use native.Mathlib.Omega.{arith}
use Rattle.wire.proofs.SpliceLaws.{zeros-lent}
use Rattle.table.specs.Places.{latched_status, latched_size}
use Rattle.command.specs.Exceptions.{exceptions_cleared}
use Rattle.command.proofs.exception.clear_latched.Goals as goal

pub returns : goal.returns
unfolding exceptions_cleared
returns c =
    rw (c.put_summary.ensures, zeros-lent c.args.values.now latched_status (latched_status + latched_size) (omega arith) (omega arith) (c.fill.ensures.after (λ y e. e)))
