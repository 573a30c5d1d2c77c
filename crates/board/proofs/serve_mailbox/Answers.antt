-- `board::serve_mailbox`: each return is one law, given what the calls ensure. Assumes nothing.
use mathlib.Core.Path.{◌≡◌, sym, ap, ◌∙◌}
use native.Mathlib.Omega.{arith}
use Rattle.wire.specs.Little.{number}
use Rattle.mailbox.specs.declared.Head.{Head}
use Rattle.mailbox.proofs.MailLaws.{asking}
use Rattle.board.specs.Calls.{number_of}
use Rattle.board.proofs.CallLaws.{abort_mailed, answer-mailed}
use Rattle.board.proofs.serve_mailbox.Goals as goal

pub sdo_of-sdo-requires : goal.sdo_of-sdo-requires
sdo_of-sdo-requires c =
    let q = asking c.args.mailbox.now c.args.head c.requires.0 in
    let f : c.args.head.len ≡ number c.args.mailbox.now 0 2 = ap (λ (h : Head). h.len) q.read in
    (q.size, f, (omega (arith, f, q.low), omega (arith, f, q.high)))

pub returns-in-None : goal.returns-in-None
unfolding number_of
returns-in-None c =
    abort_mailed c.args.mailbox.now c.args.values.now c.args.block.now c.args.state.now c.args.answer.now c.sdo_of-sdo.ensures.0 (sym c.heard_of.ensures ∙ c.in-None.is) c.clear_record.ensures

pub returns-in-Some : goal.returns-in-Some
unfolding number_of
returns-in-Some c =
    let q = asking c.args.mailbox.now c.args.head c.requires.0 in
    answer-mailed c.args.mailbox.now c.args.values.now c.args.block.now c.args.state.now c.args.answer.now c.sdo_of-sdo.ensures.0 q.read c.in-Some.said (sym c.heard_of.ensures ∙ c.in-Some.is) c.deliver.ensures
