-- `get_bytes` meets its contract: whole bytes are copied, others come from across. Assumes nothing.
use Rattle.std.proofs.Common.{◌∙◌, ap, arith}
use Rattle.bits.proofs.Copying.{get_whole_bytes}
use Rattle.wire.specs.Splice.{splice}
use Rattle.bits.proofs.get_bytes.Goals as goal

pub returns-then-at-eq0 : goal.returns-then-at-eq0
returns-then-at-eq0 c =
    c.copy_at.ensures
    ∙ ap (splice c.args.dst.now c.args.to) (get_whole_bytes c.args.s.now c.args.at c.args.n (λ k. (c.type_inv.s k).fits) c.if-at-eq0.true (omega arith))
