-- `sample::put_reading`: the writes in their order. Assumes nothing.
use Rattle.sample.proofs.put_reading.Goals as goal

pub returns : goal.returns
returns c =
    rw (c.put-4.ensures, c.put-3.ensures, c.put-2.ensures, c.put.ensures, c.bits_of-pattern.ensures)
