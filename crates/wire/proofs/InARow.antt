-- Writes that follow each other are one write. Assumes nothing.
use mathlib.Core.Path.{◌≡◌, ap, ◌∙◌}
use mathlib.Core.List.{List, ◌++◌, append_assoc}
use Prim.Native.Nat.{ℕ, ◌+◌, ◌≤◌}
use native.Mathlib.Omega.{arith}
use lib.ListN.{length, length-append}
use Rattle.wire.specs.Splice.{splice}
use Rattle.wire.specs.Little.{little}
use Rattle.wire.proofs.SpliceLaws.{splice_behind}
use Rattle.wire.proofs.LittleLaws.{length-little}

-- four numbers, the first of n bytes and the others of one
pub four_in_a_row : (l : List ℕ) (at p q r n a b c d : ℕ) → p ≡ at + n → q ≡ at + n + 1 → r ≡ at + n + 2 → at + n + 3 ≤ length l
    → splice (splice (splice (splice l at (little n a)) p (little 1 b)) q (little 1 c)) r (little 1 d)
    ≡ splice l at (little n a ++ (little 1 b ++ (little 1 c ++ little 1 d)))
four_in_a_row l at p q r n a b c d ep eq er h =
    let la : length (little n a) ≡ n = length-little n a in
    let lb : length (little 1 b) ≡ 1 = length-little 1 b in
    let lc : length (little 1 c) ≡ 1 = length-little 1 c in
    let ld : length (little 1 d) ≡ 1 = length-little 1 d in
    let lab : length (little n a ++ little 1 b) ≡ n + 1 = simp length-append (omega arith) in
    let labc : length ((little n a ++ little 1 b) ++ little 1 c) ≡ n + 2 = simp length-append (omega arith) in
    rw (
      splice_behind l at (little n a) (little 1 b) p (omega arith) (omega arith),
      splice_behind l at (little n a ++ little 1 b) (little 1 c) q (omega arith) (omega arith),
      splice_behind l at ((little n a ++ little 1 b) ++ little 1 c) (little 1 d) r (omega arith) (omega arith),
    )
    (ap (splice l at) (append_assoc (little n a ++ little 1 b) (little 1 c) (little 1 d) ∙ append_assoc (little n a) (little 1 b) (little 1 c ++ little 1 d)))
