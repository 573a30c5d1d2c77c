-- `put_across` meets its contract. Invariant: the bytes that are left, written from here, give the whole. Assumes nothing.
use Rattle.std.proofs.Common.{◌+◌, ◌*◌, ◌∙◌, sym, arith}
use Rattle.std.proofs.lemmas.List.{drop_all}
use Rattle.bits.proofs.Copying.{put_turn}
use Rattle.bits.proofs.Numbers.{length-bits}
use Rattle.bits.specs.Bits.{bits}
use Rattle.wire.proofs.SpliceLaws.{splice_none}
use Rattle.bits.proofs.put_across.Goals as goal

pub loop-i-preserved : goal.loop-i-preserved
loop-i-preserved c =
    rw (c.put_field.ensures, c.from.ensures) (put_turn (bits c.loop-i.s) c.args.bytes.now c.args.at c.loop-i.i (omega arith) (omega (arith, length-bits c.loop-i.s))) ∙ c.loop-i.invariant

pub returns : goal.returns
unfolding bits
returns c =
    sym (splice_none (bits c.loop-i.s) (c.args.at + 8 * c.loop-i.i))
    ∙ (rw (drop_all c.loop-i.i c.args.bytes.now (omega arith)) at c.loop-i.invariant)
