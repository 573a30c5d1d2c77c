-- `judge` is `card_verdict`: one law for each way out; the layout alone counts where both points are plainly within.
use mathlib.Core.Path.{sym, ◌∙◌}
use native.Mathlib.Omega.{arith}
use Rattle.std.proofs.lemmas.Result.{err_from_is_err_and}
use Rattle.card.specs.Card.{point_verdict}
use Rattle.card.proofs.Words.{head_layout}
use Rattle.enter.proofs.Judged.{by_layout, by_first, by_second, plain_card}
use Rattle.enter.proofs.judge.Goals as goal

pub returns-in_err-judge_layout : goal.returns-in_err-judge_layout
returns-in_err-judge_layout c =
    let head = head_layout c.args.card.now c.requires _ c.from.ensures (omega arith) in
    let p = err_from_is_err_and c.from_residual.result c.from_residual.ensures.1 in
    rw (p.1, p.2) (by_layout c.args.card.now _ head c.in_err-judge_layout.ensures)

pub returns-then-both_within : goal.returns-then-both_within
returns-then-both_within c =
    let head = head_layout c.args.card.now c.requires _ c.from.ensures (omega arith) in
    plain_card c.args.card.now _ head c.in_ok-judge_layout.ensures _ _ c.fields_1-one.ensures c.fields_2-two.ensures (sym c.both_within.ensures ∙ c.if-both_within.true)

pub returns-in_err-judge_levels : goal.returns-in_err-judge_levels
unfolding point_verdict
returns-in_err-judge_levels c =
    let head = head_layout c.args.card.now c.requires _ c.from.ensures (omega arith) in
    let p = err_from_is_err_and c.from_residual-in_err-judge_levels.result c.from_residual-in_err-judge_levels.ensures.1 in
    rw (p.1, p.2) (by_first c.args.card.now _ head c.in_ok-judge_layout.ensures _ _ c.fields_1-one.ensures c.fields_2-two.ensures c.in_err-judge_levels.ensures)

pub returns : goal.returns
unfolding point_verdict
returns c =
    let head = head_layout c.args.card.now c.requires _ c.from.ensures (omega arith) in
    by_second c.args.card.now _ head c.in_ok-judge_layout.ensures _ _ c.fields_1-one.ensures c.fields_2-two.ensures c.in_ok-judge_levels.ensures c.judge_levels-2.ensures
