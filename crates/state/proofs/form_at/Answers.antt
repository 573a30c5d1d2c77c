-- `state::form_at`: the flag at its place. Assumes nothing.
use Rattle.state.specs.State.{form_at}
use Rattle.state.proofs.form_at.Goals as goal

pub returns : goal.returns
unfolding form_at
returns c = c.is_set.ensures
