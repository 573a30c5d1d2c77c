-- `load` meets its contract: nothing of a faulty block, all of any other. Assumes nothing.
use Rattle.block.proofs.Whole.{load_refused, load_done}
use Rattle.load.proofs.load.Goals as goal

pub returns-then-not-take_numbers : goal.returns-then-not-take_numbers
returns-then-not-take_numbers c =
    load_refused c.args.block.now c.args.values.now c.take_numbers.ensures.taken c.if-not-take_numbers.true

pub returns : goal.returns
returns c =
    load_done c.args.block.now c.args.values.now c.take_numbers.ensures.taken c.if-not-take_numbers.false c.take_entries.ensures
