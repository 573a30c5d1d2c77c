-- `board::power_up`: each return is one law, given what the calls ensure. Assumes nothing.
use Rattle.board.specs.Calls.{number_of, with_form}
use Rattle.board.proofs.CallLaws.{bad_values, bad_block, bad_state, all-sized, no_power, power_done}
use Rattle.board.proofs.power_up.Goals as goal

pub returns-in_default : goal.returns-in_default
unfolding number_of
returns-in_default c = no_power c.args.form c.args.values.now c.args.block.now c.args.state.now (bad_values c.args.values.now c.args.block.now c.args.state.now c.in_default.ensures.cases)

pub returns-in_default-as_array : goal.returns-in_default-as_array
unfolding number_of
returns-in_default-as_array c =
    rw c.in-Some.ensures.cases.same (no_power c.args.form c.args.values.now c.args.block.now c.args.state.now (bad_block c.args.values.now c.args.block.now c.args.state.now c.in-Some.ensures.cases.long c.in_default-as_array.ensures.cases))

pub returns-in_default-as_mut_array : goal.returns-in_default-as_mut_array
unfolding number_of
returns-in_default-as_mut_array c =
    rw c.in-Some.ensures.cases.same (no_power c.args.form c.args.values.now c.args.block.now c.args.state.now (bad_state c.args.values.now c.args.block.now c.args.state.now c.in-Some.ensures.cases.long c.in-Some-as_array.ensures.cases.long c.in_default-as_mut_array.ensures.cases))

pub returns : goal.returns
unfolding number_of with_form
returns c =
    power_done c.args.form c.args.values.now c.args.block.now c.args.state.now (all-sized c.args.values.now c.args.block.now c.args.state.now c.in-Some.ensures.cases.long c.in-Some-as_array.ensures.cases.long c.in-Some-as_mut_array.ensures.cases.long) (rw c.in-Some-as_array.ensures.cases.same at c.fill.ensures) (rw c.in-Some-as_mut_array.ensures.cases.same at c.drop_all.ensures) c.put_form.ensures
