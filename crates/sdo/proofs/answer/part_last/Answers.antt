-- `part_last` meets its contract: the bytes, taken one by one, are the part filled up with zeros.
use mathlib.Core.Path.{◌≡◌}
use native.Mathlib.Omega.{arith}
use lib.ListN.{length, take, length-take}
use Rattle.sdo.proofs.Facts.{part-laid}
use Rattle.sdo.proofs.answer.part_last.Goals as goal

pub returns : goal.returns
returns c =
    let n : length (take c.args.len c.args.held.now) ≡ c.args.len = simp length-take (omega (arith, c.requires.1, c.requires.0.0)) in
    part-laid (take c.args.len c.args.held.now) c.args.place c.args.toggle _ _ _ _ _ _ _ _ _ (rw n (omega (arith, c.last_head.ensures, c.requires.0.1, c.requires.0.2))) c.byte_at.ensures c.byte_at-2.ensures c.byte_at-3.ensures c.byte_at-4.ensures c.byte_at-5.ensures c.byte_at-6.ensures c.byte_at-7.ensures
