-- `line::read::next_part`: each return is one law, given what the calls ensure. Assumes nothing.
use mathlib.Core.Path.{ap, ◌∙◌}
use Rattle.transfer.specs.Records.{key_at}
use Rattle.transfer.specs.Turns.{is_reading}
use Rattle.transfer.proofs.RecordLaws.{at_most_64, held_fits}
use Rattle.line.proofs.Doors.{some_when, none_when}
use Rattle.line.proofs.Reading.{next_given, next-dropped, next_none}
use Rattle.line.proofs.read.next_part.Goals as goal

pub give_part-requires : goal.give_part-requires
give_part-requires c =
    let f = held_fits c.record_at-t.result (is_reading c.record_at-t.result.direction) (some_when _ _ _ c.reading.ensures c.in-Some.is).0 in
    (c.requires, at_most_64 f, f.place_in)

pub returns-in-Some : goal.returns-in-Some
returns-in-Some c =
    next_given c.args.at c.args.state.now c.args.room.now c.record_at-t.result c.args.toggle c.record_at-t.ensures (some_when _ _ _ c.reading.ensures c.in-Some.is).0 c.if-t-toggle.true c.give_part.ensures

pub returns-in-Some-2 : goal.returns-in-Some-2
returns-in-Some-2 c =
    let e = some_when _ _ _ c.reading.ensures c.in-Some.is in
    next-dropped c.args.at c.args.state.now c.args.room.now c.record_at-t.result c.args.toggle c.record_at-t.ensures e.0 c.if-t-toggle.false (c.key_at.ensures ∙ ap key_at e.1) c.wrong_toggle.ensures

pub returns-in-None : goal.returns-in-None
returns-in-None c =
    next_none c.args.at c.args.state.now c.args.room.now c.record_at-t.result c.args.toggle c.record_at-t.ensures (none_when _ _ c.reading.ensures c.in-None.is) c.no_transfer.ensures c.ended.ensures
