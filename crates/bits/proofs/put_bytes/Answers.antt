-- `put_bytes` meets its contract: whole bytes are copied, others go across. Assumes nothing.
use Rattle.std.proofs.Common.{◌∙◌, refl, ap, arith}
use Rattle.bits.proofs.Copying.{put_whole_bytes}
use Rattle.bits.specs.Bits.{bits}
use Rattle.bits.proofs.put_bytes.Goals as goal

pub returns-then-at-eq0 : goal.returns-then-at-eq0
returns-then-at-eq0 c =
    ap bits c.copy_at.ensures
    ∙ put_whole_bytes c.args.s.now c.args.at _ c.args.bytes.now c.if-at-eq0.true refl (omega arith)
