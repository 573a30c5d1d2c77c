-- `opened_short` meets its contract: the bytes, taken one by one, are the value filled up with zeros.
use Prim.Native.Nat.{◌/◌, ◌%◌}
use mathlib.Core.Path.{◌≡◌}
use native.Mathlib.Omega.{arith}
use Rattle.sdo.proofs.Facts.{short-laid}
use Rattle.sdo.proofs.answer.opened_short.Goals as goal

pub returns : goal.returns
returns c =
    let high : c.args.k.index / 256 % 256 ≡ c.args.k.index / 256 = omega arith in
    rw (c.to_le_bytes.ensures, high) (short-laid _ _ _ _ _ _ _ (omega arith) (omega arith) c.byte_at.ensures c.byte_at-2.ensures c.byte_at-3.ensures c.byte_at-4.ensures)
