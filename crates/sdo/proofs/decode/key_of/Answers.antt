-- `key_of` meets its contract: index and subindex, byte by byte.
use Prim.Native.Nat.{◌+◌, ◌*◌}
use mathlib.Core.Path.{◌≡◌}
use native.Mathlib.Omega.{arith}
use lib.ListN.{get_or}
use Rattle.wire.proofs.Stores.{two_bytes}
use Rattle.sdo.proofs.decode.key_of.Goals as goal

pub returns : goal.returns
returns c =
    let e : c.at.result ≡ get_or c.args.m.now 1 0 + 256 * get_or c.args.m.now 2 0 = omega (arith, c.at.ensures, two_bytes c.args.m.now 1) in
    rw e
