-- `board::take_mailbox`: each return is one law, given what the calls ensure. Assumes nothing.
use mathlib.Core.Path.{◌∙◌}
use Rattle.sdo.proofs.Facts.{said}
use Rattle.board.specs.Calls.{number_of}
use Rattle.board.proofs.CallLaws.{bad_values, bad_block, bad_state, all-sized, no_mail_memory, not_chosen, is_chosen}
use Rattle.board.proofs.take_mailbox.Goals as goal

pub returns-in_default : goal.returns-in_default
unfolding number_of
returns-in_default c = no_mail_memory c.args.mailbox.now c.args.values.now c.args.block.now c.args.state.now c.args.answer.now (bad_values c.args.values.now c.args.block.now c.args.state.now c.in_default.ensures.cases)

pub returns-in_default-as_mut_array : goal.returns-in_default-as_mut_array
unfolding number_of
returns-in_default-as_mut_array c =
    rw c.in-Some.ensures.cases.same (no_mail_memory c.args.mailbox.now c.args.values.now c.args.block.now c.args.state.now c.args.answer.now (bad_block c.args.values.now c.args.block.now c.args.state.now c.in-Some.ensures.cases.long c.in_default-as_mut_array.ensures.cases))

pub returns-in_default-as_mut_array-2 : goal.returns-in_default-as_mut_array-2
unfolding number_of
returns-in_default-as_mut_array-2 c =
    rw (c.in-Some.ensures.cases.same, c.in-Some-as_mut_array.ensures.cases.same) (no_mail_memory c.args.mailbox.now c.args.values.now c.args.block.now c.args.state.now c.args.answer.now (bad_state c.args.values.now c.args.block.now c.args.state.now c.in-Some.ensures.cases.long c.in-Some-as_mut_array.ensures.cases.long c.in_default-as_mut_array-2.ensures.cases))

pub returns-then-not-form_at : goal.returns-then-not-form_at
unfolding number_of
returns-then-not-form_at c =
    rw (c.in-Some.ensures.cases.same, c.in-Some-as_mut_array.ensures.cases.same, c.in-Some-as_mut_array-2.ensures.cases.same) (not_chosen c.args.mailbox.now c.args.values.now c.args.block.now c.args.state.now c.args.answer.now (all-sized c.args.values.now c.args.block.now c.args.state.now c.in-Some.ensures.cases.long c.in-Some-as_mut_array.ensures.cases.long c.in-Some-as_mut_array-2.ensures.cases.long) (said (rw c.in-Some-as_mut_array-2.ensures.cases.same at c.form_at.ensures) c.if-not-form_at.true))

pub returns : goal.returns
returns c =
    rw (c.in-Some.ensures.cases.same, c.in-Some-as_mut_array.ensures.cases.same, c.in-Some-as_mut_array-2.ensures.cases.same) at c.open_mailbox.ensures ∙ is_chosen c.args.mailbox.now c.args.values.now c.args.block.now c.args.state.now c.args.answer.now (all-sized c.args.values.now c.args.block.now c.args.state.now c.in-Some.ensures.cases.long c.in-Some-as_mut_array.ensures.cases.long c.in-Some-as_mut_array-2.ensures.cases.long) (said (rw c.in-Some-as_mut_array-2.ensures.cases.same at c.form_at.ensures) c.if-not-form_at.false)
