-- `find::area::is_empty`: each arm is an area. Assumes nothing.
use mathlib.Core.Path.{sym}
use native.Mathlib.Omega.{arith}
use Rattle.table.specs.Areas.{areas}
use Rattle.table.proofs.Areas.{first_area, next-area}
use Rattle.find.proofs.area.is_empty.Goals as goal

pub returns-in-0-to-4095 : goal.returns-in-0-to-4095
unfolding areas
returns-in-0-to-4095 c = sym (first_area _ (omega arith) (omega arith))

pub returns-in-4096-to-8191 : goal.returns-in-4096-to-8191
unfolding areas
returns-in-4096-to-8191 c = sym (next-area 0 _ (omega arith) (omega arith) (omega arith) (omega arith))

pub returns-in-8192-to-24575 : goal.returns-in-8192-to-24575
unfolding areas
returns-in-8192-to-24575 c = sym (next-area 1 _ (omega arith) (omega arith) (omega arith) (omega arith))

pub returns-in-24576-to-28671 : goal.returns-in-24576-to-28671
unfolding areas
returns-in-24576-to-28671 c = sym (next-area 2 _ (omega arith) (omega arith) (omega arith) (omega arith))

pub returns-in-28672-to-32767 : goal.returns-in-28672-to-32767
unfolding areas
returns-in-28672-to-32767 c = sym (next-area 3 _ (omega arith) (omega arith) (omega arith) (omega arith))

pub returns-in-32768-to-36863 : goal.returns-in-32768-to-36863
unfolding areas
returns-in-32768-to-36863 c = sym (next-area 4 _ (omega arith) (omega arith) (omega arith) (omega arith))

pub returns-in-36864-to-40959 : goal.returns-in-36864-to-40959
unfolding areas
returns-in-36864-to-40959 c = sym (next-area 5 _ (omega arith) (omega arith) (omega arith) (omega arith))

pub returns-in-40960-to-61439 : goal.returns-in-40960-to-61439
unfolding areas
returns-in-40960-to-61439 c = sym (next-area 6 _ (omega arith) (omega arith) (omega arith) (omega arith))

pub returns-in-61440-to-65535 : goal.returns-in-61440-to-65535
unfolding areas
returns-in-61440-to-65535 c = sym (next-area 7 _ (omega arith) (omega arith) (omega arith) (omega arith))
