-- `line::read::give_part`: each return is one law, given what the calls ensure. Assumes nothing.
use mathlib.Core.Path.{◌≡◌}
use lib.ListN.{length}
use borrow.Author.Rules.{rules}
use Rattle.line.proofs.Reading.{given_last, given_more}
use Rattle.line.proofs.read.give_part.Goals as goal

pub returns-then-t : goal.returns-then-t
returns-then-t c =
    let h : length c.args.t.held ≡ 64 = search rules in
    given_last c.args.at c.args.state.now c.args.room.now c.args.t h c.requires.1 c.if-t.true c.part_last-eight.ensures c.ended.ensures

pub returns : goal.returns
returns c =
    let h : length c.args.t.held ≡ 64 = search rules in
    given_more c.args.at c.args.state.now c.args.room.now c.args.t h c.requires.1 c.if-t.false c.turned.ensures c.part_more-eight.ensures c.going.ensures
