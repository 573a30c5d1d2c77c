-- `sample::taken`: reading and trips, then group after group. Assumes nothing.
use Rattle.sample.specs.Sample.{values_after}
use Rattle.sample.proofs.taken.Goals as goal

pub returns : goal.returns
unfolding values_after
returns c =
    record {
      trips = c.take-next.ensures.trips;
      values = rw (c.put.ensures, c.put_summary.ensures, c.put_faults.ensures, c.take-next.ensures.values);
    }
