-- `bytes_zero` meets its contract. Invariant: the greatest so far is 0 where all bytes so far are. Assumes nothing.
use mathlib.Core.Path.{refl, ap, ◌∙◌}
use Prim.Native.Nat.{ℕ, ◌-◌}
use native.Mathlib.Omega.{arith}
use lib.Dec.{eqb}
use lib.ListN.{take, drop}
use lib.Seq.{take_all}
use Rattle.block.proofs.Zeros.{zero_part, most_next}
use Rattle.block.specs.Block.{all_zero}
use Rattle.block.proofs.bytes_zero.Goals as goal

pub loop-byte-init : goal.loop-byte-init
unfolding all_zero
loop-byte-init c = refl

pub loop-byte-preserved : goal.loop-byte-preserved
loop-byte-preserved c =
    ap (λ (n : ℕ). eqb n 0) c.max-most.ensures ∙ most_next _ c.loop-byte.byte-index c.loop-byte.most c.loop-byte-test.true c.loop-byte.invariant

pub returns : goal.returns
returns c =
    c.loop-byte.invariant
    ∙ ap all_zero (take_all c.loop-byte.byte-index (take (512 - c.args.first) (drop c.args.first c.args.block.now)) (omega arith))
    ∙ zero_part c.args.block.now c.args.first (512 - c.args.first) c.fits-block (omega arith)
