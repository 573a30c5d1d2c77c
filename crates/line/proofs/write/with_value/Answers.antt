-- `line::write::with_value`: the law of a value with its opening, given what the calls ensure. Assumes nothing.
use Rattle.line.proofs.Writing.{concluded_told, value-told}
use Rattle.line.proofs.write.with_value.Goals as goal

pub returns : goal.returns
returns c =
    value-told c.args.at c.args.values.now c.args.block.now c.args.state.now c.args.room.now c.args.row c.args.bytes.now c.requires.1.1 c.write_opened.ensures c.tell.ensures
    (concluded_told c.args.at c.args.state.now _ c.args.row c.args.values.now c.args.block.now _ c.requires.1.0 c.args.bytes.now c.commit-ending.ensures c.conclude.ensures)
