-- `state::clear_record`: zeros over the record. Assumes nothing.
use Rattle.state.proofs.StateLaws.{record_cleared}
use Rattle.state.proofs.clear_record.Goals as goal

pub returns : goal.returns
returns c = record_cleared c.args.state.now c.args.at c.requires (c.fill.ensures.after (λ y e. e))
