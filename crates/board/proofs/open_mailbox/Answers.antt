-- `board::open_mailbox`: each return is one law, given what the calls ensure. Assumes nothing.
use mathlib.Core.Path.{sym, ◌∙◌}
use Rattle.std.proofs.lemmas.Result.{err_from_is_err_and}
use Rattle.board.specs.Calls.{number_of}
use Rattle.board.proofs.CallLaws.{mail_unfit, mail_no_room, mail_is_served}
use Rattle.board.proofs.open_mailbox.Goals as goal

pub returns-in_err-head : goal.returns-in_err-head
returns-in_err-head c =
    let p = err_from_is_err_and c.from_residual.result c.from_residual.ensures.1 in
    rw (p.1, p.2) (mail_unfit c.args.mailbox.now c.args.values.now c.args.block.now c.args.state.now c.args.answer.now c.in_err-head.field-0.0 (sym c.in_err-head.ensures))

pub returns-then-answer-lt-SIZE : goal.returns-then-answer-lt-SIZE
unfolding number_of
returns-then-answer-lt-SIZE c =
    mail_no_room c.args.mailbox.now c.args.values.now c.args.block.now c.args.state.now c.args.answer.now c.in_ok-head.head (sym c.mail_of.ensures ∙ c.in_ok-head.was) c.if-answer-lt-SIZE.true

pub returns : goal.returns
returns c =
    c.serve_mailbox.ensures ∙ mail_is_served c.args.mailbox.now c.args.values.now c.args.block.now c.args.state.now c.args.answer.now c.in_ok-head.head (sym c.mail_of.ensures ∙ c.in_ok-head.was) c.if-answer-lt-SIZE.false
