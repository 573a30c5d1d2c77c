-- `sample::take`: by whether a pressure is given back; then it is the sample's, and no NaN. Assumes nothing.
use Rattle.trip.proofs.Pressure.{usable_number}
use Rattle.sample.proofs.SampleLaws.{some_told, taken_usable, taken_unusable}
use Rattle.sample.proofs.take.Goals as goal

pub take_usable-requires : goal.take_usable-requires
take_usable-requires c =
    let u = some_told _ c.args.p _ c.in-Some.ensures in
    rw u.1 (usable_number c.args.p c.args.valid u.0)

pub returns-in-Some : goal.returns-in-Some
returns-in-Some c =
    let q = taken_usable _ _ c.args.p _ c.in-Some.ensures (c.take_usable.ensures.trips, c.take_usable.ensures.values) in
    record { trips = q.0; values = q.1 }

pub returns-in-None : goal.returns-in-None
returns-in-None c =
    let q = taken_unusable _ _ c.args.p _ c.in-None.ensures (c.take_unusable.ensures.trips, c.take_unusable.ensures.values) in
    record { trips = q.0; values = q.1 }
