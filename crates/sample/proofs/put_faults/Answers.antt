-- `sample::put_faults`: the writes in their order; the latched word is read before them. Assumes nothing.
use native.Mathlib.Omega.{arith}
use Rattle.sample.specs.Faults.{with_faults}
use Rattle.sample.proofs.SampleLaws.{kept_lt}
use Rattle.sample.proofs.put_faults.Goals as goal

pub overflow_cast-active : goal.overflow_cast-active
overflow_cast-active c = omega (arith, c.keep-active.ensures, kept_lt c.args.faults)

pub returns : goal.returns
unfolding with_faults
returns c =
    rw (c.put-3.ensures, c.put-2.ensures, c.put.ensures, c.at.ensures, c.keep-active.ensures)
