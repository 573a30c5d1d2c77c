-- `gauge::commit::check`: each return is one law, given what the calls ensure. Assumes nothing.
use mathlib.Core.Path.{sym, ap, ◌∙◌}
use mathlib.Core.Bool.{Bool, cond}
use Rattle.std.proofs.lemmas.Result.{err_from_is_err_and}
use Rattle.table.specs.Codes.{left_crossed}
use Rattle.gauge.specs.Checks.{code_in}
use Rattle.gauge.proofs.CommitLaws.{outside_code, lock_refuses, limits_refuse, points_told}
use Rattle.gauge.proofs.commit.check.Goals as goal

pub returns-then-refuses : goal.returns-then-refuses
unfolding code_in
returns-then-refuses c =
    lock_refuses c.args.row c.args.values.now c.args.bytes.now (sym c.refuses.ensures ∙ c.if-refuses.true)

pub returns-in_err-judge : goal.returns-in_err-judge
unfolding code_in
returns-in_err-judge c =
    let p = err_from_is_err_and c.from_residual.result c.from_residual.ensures.1 in
    rw (p.1, p.2) (outside_code _ ∙ limits_refuse c.args.row c.args.values.now c.args.bytes.now (sym c.refuses.ensures ∙ c.if-refuses.false) _ (sym c.judge.ensures ∙ c.in_err-judge.was))

pub returns-then-leaves_crossed : goal.returns-then-leaves_crossed
unfolding code_in
returns-then-leaves_crossed c =
    ap (λ (b : Bool). cond b left_crossed 0) (sym c.if-leaves_crossed.true)
    ∙ points_told c.args.row c.args.values.now c.args.bytes.now (sym c.refuses.ensures ∙ c.if-refuses.false) (sym c.judge.ensures ∙ c.in_ok-judge.was) c.leaves_crossed.ensures

pub returns : goal.returns
unfolding code_in
returns c =
    ap (λ (b : Bool). cond b left_crossed 0) (sym c.if-leaves_crossed.false)
    ∙ points_told c.args.row c.args.values.now c.args.bytes.now (sym c.refuses.ensures ∙ c.if-refuses.false) (sym c.judge.ensures ∙ c.in_ok-judge.was) c.leaves_crossed.ensures
