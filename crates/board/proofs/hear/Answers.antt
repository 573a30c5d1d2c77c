-- `board::hear`: each return is one law, given what the calls ensure. Assumes nothing.
use mathlib.Core.Path.{◌∙◌}
use native.Mathlib.Omega.{arith}
use Rattle.sdo.proofs.Facts.{said}
use Rattle.board.specs.Calls.{number_of}
use Rattle.board.proofs.CallLaws.{bad_values, bad_block, bad_state, all-sized, heard-line, no_memory, no_line, no_room, no_message, is_served}
use Rattle.board.proofs.hear.Goals as goal

pub returns-in_default : goal.returns-in_default
unfolding number_of
returns-in_default c = no_memory c.args.line c.args.message.now c.args.values.now c.args.block.now c.args.state.now c.args.answer.now (bad_values c.args.values.now c.args.block.now c.args.state.now c.in_default.ensures.cases)

pub returns-in_default-as_mut_array : goal.returns-in_default-as_mut_array
unfolding number_of
returns-in_default-as_mut_array c =
    rw c.in-Some.ensures.cases.same (no_memory c.args.line c.args.message.now c.args.values.now c.args.block.now c.args.state.now c.args.answer.now (bad_block c.args.values.now c.args.block.now c.args.state.now c.in-Some.ensures.cases.long c.in_default-as_mut_array.ensures.cases))

pub returns-in_default-as_mut_array-2 : goal.returns-in_default-as_mut_array-2
unfolding number_of
returns-in_default-as_mut_array-2 c =
    rw (c.in-Some.ensures.cases.same, c.in-Some-as_mut_array.ensures.cases.same) (no_memory c.args.line c.args.message.now c.args.values.now c.args.block.now c.args.state.now c.args.answer.now (bad_state c.args.values.now c.args.block.now c.args.state.now c.in-Some.ensures.cases.long c.in-Some-as_mut_array.ensures.cases.long c.in_default-as_mut_array-2.ensures.cases))

pub returns-then-not-hears_eight : goal.returns-then-not-hears_eight
unfolding number_of
returns-then-not-hears_eight c =
    rw (c.in-Some.ensures.cases.same, c.in-Some-as_mut_array.ensures.cases.same, c.in-Some-as_mut_array-2.ensures.cases.same) (no_line c.args.line c.args.message.now c.args.values.now c.args.block.now c.args.state.now c.args.answer.now (all-sized c.args.values.now c.args.block.now c.args.state.now c.in-Some.ensures.cases.long c.in-Some-as_mut_array.ensures.cases.long c.in-Some-as_mut_array-2.ensures.cases.long) (said (rw c.in-Some-as_mut_array-2.ensures.cases.same at c.hears_eight.ensures) c.if-not-hears_eight.true))

pub returns-then-answer-lt-ANSWER_SIZE : goal.returns-then-answer-lt-ANSWER_SIZE
unfolding number_of
returns-then-answer-lt-ANSWER_SIZE c =
    rw (c.in-Some.ensures.cases.same, c.in-Some-as_mut_array.ensures.cases.same, c.in-Some-as_mut_array-2.ensures.cases.same) (no_room c.args.line c.args.message.now c.args.values.now c.args.block.now c.args.state.now c.args.answer.now (all-sized c.args.values.now c.args.block.now c.args.state.now c.in-Some.ensures.cases.long c.in-Some-as_mut_array.ensures.cases.long c.in-Some-as_mut_array-2.ensures.cases.long) (said (rw c.in-Some-as_mut_array-2.ensures.cases.same at c.hears_eight.ensures) c.if-not-hears_eight.false) (omega (arith, c.if-answer-lt-ANSWER_SIZE.true)))

pub returns-then-message-ne-MESSAGE_SIZE : goal.returns-then-message-ne-MESSAGE_SIZE
unfolding number_of
returns-then-message-ne-MESSAGE_SIZE c =
    rw (c.in-Some.ensures.cases.same, c.in-Some-as_mut_array.ensures.cases.same, c.in-Some-as_mut_array-2.ensures.cases.same) (no_message c.args.line c.args.message.now c.args.values.now c.args.block.now c.args.state.now c.args.answer.now (all-sized c.args.values.now c.args.block.now c.args.state.now c.in-Some.ensures.cases.long c.in-Some-as_mut_array.ensures.cases.long c.in-Some-as_mut_array-2.ensures.cases.long) (said (rw c.in-Some-as_mut_array-2.ensures.cases.same at c.hears_eight.ensures) c.if-not-hears_eight.false) c.if-answer-lt-ANSWER_SIZE.false c.if-message-ne-MESSAGE_SIZE.true)

pub serve-requires : goal.serve-requires
serve-requires c = (heard-line c.args.line c.args.state.now (said (rw c.in-Some-as_mut_array-2.ensures.cases.same at c.hears_eight.ensures) c.if-not-hears_eight.false), c.if-message-ne-MESSAGE_SIZE.false, c.if-answer-lt-ANSWER_SIZE.false)

pub returns : goal.returns
returns c =
    rw (c.in-Some.ensures.cases.same, c.in-Some-as_mut_array.ensures.cases.same, c.in-Some-as_mut_array-2.ensures.cases.same) at c.serve.ensures ∙ is_served c.args.line c.args.message.now c.args.values.now c.args.block.now c.args.state.now c.args.answer.now (all-sized c.args.values.now c.args.block.now c.args.state.now c.in-Some.ensures.cases.long c.in-Some-as_mut_array.ensures.cases.long c.in-Some-as_mut_array-2.ensures.cases.long) (said (rw c.in-Some-as_mut_array-2.ensures.cases.same at c.hears_eight.ensures) c.if-not-hears_eight.false) c.if-answer-lt-ANSWER_SIZE.false c.if-message-ne-MESSAGE_SIZE.false
