-- `get_across` meets its contract. Invariant: the bytes that are left, read from here, give the whole part. Assumes nothing.
use Rattle.std.proofs.Common.{◌≡◌, ◌+◌, ◌-◌, ◌*◌, ◌∙◌, sym, drop, arith}
use Rattle.bits.proofs.Copying.{get_all, get_turn}
use Rattle.bits.proofs.Numbers.{length-packed}
use Rattle.bits.proofs.Parts.{field_lt}
use Rattle.wire.proofs.SpliceLaws.{splice_none, splice-lent}
use Rattle.bits.specs.Bits.{bits, packed}
use Rattle.bits.proofs.get_across.Goals as goal

pub loop-i-init : goal.loop-i-init
loop-i-init c = get_all c.args.dst.now (bits c.args.s.now) c.args.to c.args.at c.args.n (omega arith)

pub overflow_cast-byte : goal.overflow_cast-byte
overflow_cast-byte c = omega (arith, c.get_field.ensures, field_lt c.args.s.now (c.args.at + 8 * c.loop-i.i) 8)

pub loop-i-preserved : goal.loop-i-preserved
loop-i-preserved c =
    rw c.get_field.ensures (get_turn c.loop-i.byte-items (bits c.args.s.now) c.args.at c.loop-i.i c.args.n (omega arith) (omega arith)) ∙ c.loop-i.invariant

pub returns : goal.returns
unfolding packed
returns c =
    let z : c.args.n - c.loop-i.i ≡ 0 = omega arith in
    let e = sym (splice_none c.loop-i.byte-items c.loop-i.i) ∙ (rw z at c.loop-i.invariant) in
    rw e (splice-lent c.args.dst.now c.args.to (c.args.to + c.args.n) _ (omega (arith, length-packed c.args.n (drop c.args.at (bits c.args.s.now)))))
