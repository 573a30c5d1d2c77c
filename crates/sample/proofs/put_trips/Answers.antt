-- `sample::put_trips`: the status entries stand in a row. Assumes nothing.
use mathlib.Core.Path.{refl}
use Prim.Native.Nat.{◌+◌}
use native.Mathlib.Omega.{arith}
use Rattle.wire.specs.Flags.{bit}
use Rattle.wire.proofs.InARow.{four_in_a_row}
use Rattle.table.specs.Places.{status_1, status_2}
use Rattle.sample.specs.Sample.{with_trip_entries}
use Rattle.sample.proofs.put_trips.Goals as goal

pub returns : goal.returns
unfolding with_trip_entries
returns c =
    let row = four_in_a_row c.args.values.now status_1 (status_1 + 1) status_2 (status_2 + 1) 1 (bit c.args.t.one.high) (bit c.args.t.one.low) (bit c.args.t.two.high) (bit c.args.t.two.low) refl refl refl (omega arith) in
    rw (c.put.ensures, c.from.ensures, c.word_of.ensures, c.put_flags.ensures, row)
