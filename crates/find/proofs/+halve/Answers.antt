-- The cycle of calls {halve}: each look leaves fewer rows. Assumes nothing.
use mathlib.Core.Path.{ap, ◌∙◌}
use Prim.Native.Nat.{ℕ, ◌+◌, ◌*◌}
use native.Mathlib.Omega.{arith}
use Rattle.find.proofs.Way.{absence_small, none_left, here, same_behind, same_before, other_behind, other_before}
use Rattle.find.proofs.+halve.Goals as goal

pub overflow_add-result : goal.overflow_add-result
overflow_add-result t c = omega (arith, c.absent.ensures, absence_small c.args.seen, c.requires.1)

pub returns-then-left-eq0 : goal.returns-then-left-eq0
returns-then-left-eq0 t c =
    ap (λ (n : ℕ). c.args.looked * 1024 + n) c.absent.ensures
    ∙ none_left c.args.index c.args.sub c.args.low c.args.left c.args.looked c.args.seen c.if-left-eq0.true

pub returns-then-row_sub-sub : goal.returns-then-row_sub-sub
returns-then-row_sub-sub t c =
    here c.args.index c.args.sub c.args.low c.args.left c.args.looked c.args.seen _ (omega arith) (omega arith) (omega arith) (omega arith)

pub returns-then-row_sub-sub-2 : goal.returns-then-row_sub-sub-2
returns-then-row_sub-sub-2 t c =
    same_behind c.args.index c.args.sub c.args.low c.args.left c.args.looked c.args.seen _ (omega arith) (omega arith) (omega arith) c.halve.ensures

pub returns-then-row_index-index : goal.returns-then-row_index-index
returns-then-row_index-index t c =
    same_before c.args.index c.args.sub c.args.low c.args.left c.args.looked c.args.seen _ (omega arith) (omega arith) (omega arith) c.halve-then-row_index-index.ensures

pub returns-then-row_index-index-2 : goal.returns-then-row_index-index-2
returns-then-row_index-index-2 t c =
    other_behind c.args.index c.args.sub c.args.low c.args.left c.args.looked c.args.seen _ (omega arith) (omega arith) c.halve-then-row_index-index-2.ensures

pub returns : goal.returns
returns t c =
    other_before c.args.index c.args.sub c.args.low c.args.left c.args.looked c.args.seen _ (omega arith) (omega arith) c.halve-2.ensures
