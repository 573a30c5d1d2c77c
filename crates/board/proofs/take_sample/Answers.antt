-- `board::take_sample`: each return is one law, given what the calls ensure. Assumes nothing.
use Rattle.board.specs.Calls.{number_of}
use Rattle.board.proofs.CallLaws.{no_values, no_state, sample-done}
use Rattle.board.proofs.take_sample.Goals as goal

pub returns-in_default : goal.returns-in_default
unfolding number_of
returns-in_default c = no_values c.args.pressure c.args.valid c.args.faults c.args.seconds c.args.values.now c.args.state.now c.in_default.ensures.cases

pub returns-in_default-as_mut_array : goal.returns-in_default-as_mut_array
unfolding number_of
returns-in_default-as_mut_array c = rw c.in-Some.ensures.cases.same (no_state c.args.pressure c.args.valid c.args.faults c.args.seconds c.args.values.now c.args.state.now c.in-Some.ensures.cases.long c.in_default-as_mut_array.ensures.cases)

pub returns : goal.returns
unfolding number_of
returns c =
    sample-done c.args.pressure c.args.valid c.args.faults c.args.seconds c.args.values.now c.args.state.now c.in-Some.ensures.cases.long c.in-Some-as_mut_array.ensures.cases.long (rw c.in-Some-as_mut_array.ensures.cases.same at c.trips_at-on.ensures) (rw c.in-Some.ensures.cases.same at c.taken-next.ensures.trips) (rw c.in-Some.ensures.cases.same at c.taken-next.ensures.values) (rw c.in-Some-as_mut_array.ensures.cases.same at c.put_trips.ensures)
