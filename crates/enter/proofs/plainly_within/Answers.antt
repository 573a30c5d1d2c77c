-- `plainly_within`: by the first pattern that is above.
use native.Mathlib.Omega.{arith}
use lib.ListN.{get_or}
use borrow.Author.Tests.{lt-leb, le-leb}
use Rattle.card.specs.Asked.{plainly_within}
use Rattle.enter.proofs.plainly_within.Goals as goal

pub returns-then-fields-gt-HIGHEST : goal.returns-then-fields-gt-HIGHEST
unfolding plainly_within
returns-then-fields-gt-HIGHEST c = simp (lt-leb (get_or c.args.fields 2 0) 0x44BB8000 (omega arith))

pub returns-then-fields-gt-HIGHEST-2 : goal.returns-then-fields-gt-HIGHEST-2
unfolding plainly_within
returns-then-fields-gt-HIGHEST-2 c =
    simp (le-leb (get_or c.args.fields 2 0) 0x44BB8000 (omega arith), lt-leb _ _ c.if-fields-gt-HIGHEST-2.true)

pub returns-then-fields-gt-HIGHEST-3 : goal.returns-then-fields-gt-HIGHEST-3
unfolding plainly_within
returns-then-fields-gt-HIGHEST-3 c =
    simp (le-leb (get_or c.args.fields 2 0) 0x44BB8000 (omega arith), le-leb (get_or c.args.fields 3 0) 0x44BB8000 (omega arith), lt-leb _ _ c.if-fields-gt-HIGHEST-3.true)

pub returns : goal.returns
unfolding plainly_within
returns c =
    simp (le-leb (get_or c.args.fields 2 0) 0x44BB8000 (omega arith), le-leb (get_or c.args.fields 3 0) 0x44BB8000 (omega arith), le-leb (get_or c.args.fields 4 0) 0x44BB8000 (omega arith))
