-- `spread` meets its contract. Invariant: the rest, spread before i, makes what the whole does. Assumes nothing.
use Rattle.std.proofs.Common.{◌≡◌, ◌∙◌, ◌-◌, ◌*◌, sym, arith}
use Rattle.bits.proofs.Shifts.{spread_turn}
use Rattle.bits.specs.Bits.{bits, msb}
use Rattle.wire.proofs.SpliceLaws.{splice_none}
use Rattle.bits.proofs.spread.Goals as goal

pub loop-i-preserved : goal.loop-i-preserved
loop-i-preserved c =
    spread_turn c.loop-i.s c.args.first c.loop-i.i c.loop-i.rest (omega arith) (omega arith) ∙ c.loop-i.invariant

pub returns : goal.returns
unfolding msb
returns c =
    let z : 8 * (c.loop-i.i - c.args.first) ≡ 0 = omega arith in
    sym (splice_none (bits c.loop-i.s) (8 * c.args.first)) ∙ (rw z at c.loop-i.invariant)
