-- `sample::word_of`: four flags as numbers, and their sum. Assumes nothing.
use Rattle.wire.proofs.FlagLaws.{from-bit}
use Rattle.sample.specs.Sample.{trip_word}
use Rattle.sample.proofs.word_of.Goals as goal

pub returns : goal.returns
unfolding trip_word
returns c =
    rw (c.from.ensures, c.from-2.ensures, c.from-3.ensures, c.from-4.ensures, from-bit c.args.t.one.high, from-bit c.args.t.one.low, from-bit c.args.t.two.high, from-bit c.args.t.two.low)
