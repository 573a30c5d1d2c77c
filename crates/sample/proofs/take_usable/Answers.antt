-- `sample::take_usable`: the trips from the values at entry, then reading and trips. Assumes nothing.
use Rattle.sample.proofs.take_usable.Goals as goal

pub returns : goal.returns
returns c =
    record {
      trips = c.next_trips-next.ensures;
      values = rw (c.put_trips.ensures, c.put_reading.ensures, c.next_trips-next.ensures);
    }
