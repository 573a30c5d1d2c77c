-- `wire::put_flags`: four bytes, each of a flag. Assumes nothing.
use Rattle.std.proofs.Common.{◌+◌, ◌∙◌, refl, ap}
use Rattle.wire.specs.Splice.{splice}
use Rattle.wire.proofs.SpliceLaws.{splice-lent}
use Rattle.wire.proofs.FlagLaws.{flags_told}
use Rattle.wire.proofs.put_flags.Goals as goal

pub returns : goal.returns
returns c =
    let e = flags_told c.args.a c.args.b c.args.c c.args.d c.from.ensures c.from-2.ensures c.from-3.ensures c.from-4.ensures in
    rw c.copy_from_slice.ensures.after (splice-lent c.args.s.now c.args.at (c.args.at + 4) _ refl ∙ ap (splice c.args.s.now c.args.at) e)
