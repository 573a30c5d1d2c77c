-- `take_numbers` meets its contract: head, rest, entries and trip points, each by its law. Assumes nothing.
use Rattle.block.proofs.Whole.{head_bad, rest_bad, entry_bad, by_points}
use Rattle.block.proofs.take_numbers.Goals as goal

pub returns-then-not-is_headed-clause-taken : goal.returns-then-not-is_headed-clause-taken
returns-then-not-is_headed-clause-taken c =
    head_bad c.args.block.now c.is_headed.ensures c.if-not-is_headed.true

pub returns-then-not-rest_zero-clause-taken : goal.returns-then-not-rest_zero-clause-taken
returns-then-not-rest_zero-clause-taken c =
    rest_bad c.args.block.now c.is_headed.ensures c.if-not-is_headed.false c.rest_zero.ensures c.if-not-rest_zero.true

pub returns-then-not-good_numbers-clause-taken : goal.returns-then-not-good_numbers-clause-taken
returns-then-not-good_numbers-clause-taken c =
    entry_bad c.args.block.now c.is_headed.ensures c.if-not-is_headed.false c.rest_zero.ensures c.if-not-rest_zero.false c.good_numbers.ensures.good c.if-not-good_numbers.true

pub returns-clause-taken : goal.returns-clause-taken
returns-clause-taken c =
    by_points c.args.block.now c.is_headed.ensures c.if-not-is_headed.false c.rest_zero.ensures c.if-not-rest_zero.false c.good_numbers.ensures.good c.if-not-good_numbers.false c.told-block
    (c.good_numbers.ensures.numbers c.if-not-good_numbers.false) c.is_straight.ensures
