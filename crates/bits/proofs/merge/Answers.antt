-- `merge` meets its contract: no shift loses a bit, so it is the sum of the three parts of the byte. Assumes nothing.
use native.Mathlib.Omega.{arith}
use Rattle.bits.proofs.Shifts.{low_fits, high_fits, merged_shifted}
use Rattle.bits.proofs.merge.Goals as goal

pub overflow_add-result : goal.overflow_add-result
overflow_add-result c = omega (arith, low_fits c.args.x c.args.n c.args.e c.args.v (omega arith) (omega arith) c.requires.2)

pub overflow_add-result-2 : goal.overflow_add-result-2
overflow_add-result-2 c = omega (arith, low_fits c.args.x c.args.n c.args.e c.args.v (omega arith) (omega arith) c.requires.2, high_fits c.args.x c.args.n c.args.e c.args.v (omega arith) (omega arith) c.requires.2)

pub returns : goal.returns
returns c = merged_shifted c.args.x c.args.n c.args.e c.args.v (omega arith) (omega arith) c.requires.2
