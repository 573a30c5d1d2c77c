-- `number_by` reads as many bytes as the kind's number has: four, two or one.
use mathlib.Core.Path.{◌∙◌}
use native.Mathlib.Omega.{arith}
use Rattle.limits.proofs.NumberLaws.{len_word, len_pair, len_byte}
use Rattle.limits.proofs.number_by.Goals as goal

pub at-requires : goal.at-requires
at-requires c = omega (arith, c.requires, len_word c.args.kind c.if-kind-gt-UINT.true)

pub returns-then-kind-gt-UINT : goal.returns-then-kind-gt-UINT
returns-then-kind-gt-UINT c = rw (len_word c.args.kind c.if-kind-gt-UINT.true) c.at.ensures

pub at-requires-then-kind-eq-UINT : goal.at-requires-then-kind-eq-UINT
at-requires-then-kind-eq-UINT c = omega (arith, c.requires, len_pair c.args.kind c.if-kind-eq-UINT.true)

pub returns-then-kind-eq-UINT : goal.returns-then-kind-eq-UINT
returns-then-kind-eq-UINT c = rw (len_pair c.args.kind c.if-kind-eq-UINT.true) (c.from.ensures ∙ c.at-then-kind-eq-UINT.ensures)

pub at-requires-2 : goal.at-requires-2
at-requires-2 c = omega (arith, c.requires, len_byte c.args.kind (omega arith))

pub returns : goal.returns
returns c = rw (len_byte c.args.kind (omega arith)) (c.from-2.ensures ∙ c.at-2.ensures)
