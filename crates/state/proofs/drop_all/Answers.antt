-- `state::drop_all`: three writes. Assumes nothing.
use Rattle.state.specs.State.{fresh_state}
use Rattle.state.proofs.drop_all.Goals as goal

pub returns : goal.returns
unfolding fresh_state
returns c =
    rw (c.put_trips.ensures, c.all_off.ensures, c.clear_record-2.ensures, c.clear_record.ensures)
