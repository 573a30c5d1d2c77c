-- `find::row_of`: by the number. Assumes nothing.
use Rattle.std.proofs.Common.{◌≢◌, arith}
use borrow.Author.Tests.{ne_eqb}
use Rattle.find.specs.Search.{found_row, found_by}
use Rattle.find.proofs.row_of.Goals as goal

pub returns-in-512 : goal.returns-in-512
unfolding found_row found_by
returns-in-512 c = rw c.in-512.is

pub returns-in-513 : goal.returns-in-513
unfolding found_row found_by
returns-in-513 c = rw c.in-513.is

pub returns-in_default : goal.returns-in_default
unfolding found_row found_by
returns-in_default c =
    let a : c.args.number ≢ 512 = omega arith in
    let b : c.args.number ≢ 513 = omega arith in
    rw (c.numbered.ensures, ne_eqb _ _ a, ne_eqb _ _ b)
