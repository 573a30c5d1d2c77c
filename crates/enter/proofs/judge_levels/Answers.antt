-- `judge_levels`: the first of four that is not within.
use Rattle.std.proofs.lemmas.Result.{err_from_is_err_and}
use Rattle.card.specs.Card.{first_bad}
use Rattle.enter.proofs.judge_levels.Goals as goal

pub returns-in_err-judge_level : goal.returns-in_err-judge_level
unfolding first_bad
returns-in_err-judge_level c =
    let p = err_from_is_err_and c.from_residual.result c.from_residual.ensures.1 in
    rw (p.1, p.2, ← c.in_err-judge_level.ensures)

pub returns-in_err-judge_level-2 : goal.returns-in_err-judge_level-2
unfolding first_bad
returns-in_err-judge_level-2 c =
    let p = err_from_is_err_and c.from_residual-in_err-judge_level-2.result c.from_residual-in_err-judge_level-2.ensures.1 in
    rw (p.1, p.2, ← c.in_ok-judge_level.ensures, ← c.in_err-judge_level-2.ensures)

pub returns-in_err-judge_level-3 : goal.returns-in_err-judge_level-3
unfolding first_bad
returns-in_err-judge_level-3 c =
    let p = err_from_is_err_and c.from_residual-in_err-judge_level-3.result c.from_residual-in_err-judge_level-3.ensures.1 in
    rw (p.1, p.2, ← c.in_ok-judge_level.ensures, ← c.in_ok-judge_level-2.ensures, ← c.in_err-judge_level-3.ensures)

pub returns : goal.returns
unfolding first_bad
returns c =
    rw (← c.in_ok-judge_level.ensures, ← c.in_ok-judge_level-2.ensures, ← c.in_ok-judge_level-3.ensures) c.judge_level-4.ensures
