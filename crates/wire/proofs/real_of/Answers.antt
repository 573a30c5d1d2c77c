-- `wire::real_of`: the patterns of NaN give a made NaN, the others their REAL. Assumes nothing.
use mathlib.Core.Path.{sym, ◌∙◌}
use Rattle.wire.proofs.RealLaws.{over_nan, under_nan, made_nan}
use Rattle.wire.proofs.real_of.Goals as goal

pub returns-then-pattern-gt2139095040 : goal.returns-then-pattern-gt2139095040
returns-then-pattern-gt2139095040 c = made_nan ∙ sym (over_nan c.args.pattern c.if-pattern-gt2139095040.true)

pub float_from_bits-result : goal.float_from_bits-result
float_from_bits-result c = under_nan c.args.pattern c.if-pattern-gt2139095040.false
