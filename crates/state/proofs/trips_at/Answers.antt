-- `state::trips_at`: a word, and each of its bytes. Assumes nothing.
use Prim.Native.Nat.{◌/◌, ◌%◌}
use native.Mathlib.Omega.{arith}
use mathlib.Core.Path.{◌≡◌}
use Rattle.wire.specs.Flags.{is_set}
use Rattle.wire.proofs.Stores.{word_apart}
use Rattle.state.specs.State.{trips_at}
use Rattle.state.proofs.trips_at.Goals as goal

pub returns : goal.returns
unfolding trips_at is_set
returns c =
    let w = word_apart c.args.state.now 192 c.fits-state c.at.ensures in
    let last : c.at.result / 16777216 % 256 ≡ c.at.result / 16777216 = omega arith in
    rw (c.to_le_bytes.ensures, last, w.first, w.second, w.third, w.fourth)
