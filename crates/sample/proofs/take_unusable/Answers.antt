-- `sample::take_unusable`: reading valid 0, then trips off. Assumes nothing.
use Rattle.sample.proofs.take_unusable.Goals as goal

pub returns : goal.returns
returns c =
    record {
      trips = c.all_off-off.ensures;
      values = rw (c.put_trips.ensures, c.all_off-off.ensures, c.put.ensures);
    }
