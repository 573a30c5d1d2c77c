-- `inbox::send_part`: each return is one law, given what the calls ensure. Assumes nothing.
use mathlib.Core.Path.{sym, ap, ◌∙◌}
use Rattle.transfer.specs.Records.{key_at}
use Rattle.transfer.specs.Turns.{is_writing}
use Rattle.transfer.proofs.RecordLaws.{held_fits}
use Rattle.line.proofs.Doors.{some_when, none_when}
use Rattle.line.proofs.Writing.{writing-row, sent-right, sent_wrong, sent_none}
use Rattle.inbox.proofs.send_part.Goals as goal

pub take_part-requires : goal.take_part-requires
take_part-requires c =
    let e = some_when _ _ _ c.writing.ensures c.in-Some.is in
    let f = held_fits c.record_at-t.result (is_writing c.record_at-t.result.direction) e.0 in
    (c.requires, writing-row c.record_at-t.result e.0, sym e.1, f.fitting_length, f.place_in, c.record_at-t.ensures)

pub returns-in-Some : goal.returns-in-Some
returns-in-Some c =
    sent-right c.args.at c.args.values.now c.args.block.now c.args.state.now c.args.room.now c.record_at-t.result c.args.toggle c.args.part.now c.args.last c.record_at-t.ensures (some_when _ _ _ c.writing.ensures c.in-Some.is).0 c.if-t-toggle.true c.take_part.ensures

pub returns-in-Some-2 : goal.returns-in-Some-2
returns-in-Some-2 c =
    let e = some_when _ _ _ c.writing.ensures c.in-Some.is in
    sent_wrong c.args.at c.args.values.now c.args.block.now c.args.state.now c.args.room.now c.record_at-t.result c.args.toggle c.args.part.now c.args.last c.record_at-t.ensures e.0 c.if-t-toggle.false (c.key_at.ensures ∙ ap key_at e.1) c.wrong_toggle.ensures

pub returns-in-None : goal.returns-in-None
returns-in-None c =
    sent_none c.args.at c.args.values.now c.args.block.now c.args.state.now c.args.room.now c.record_at-t.result c.args.toggle c.args.part.now c.args.last c.record_at-t.ensures (none_when _ _ c.writing.ensures c.in-None.is) c.no_transfer.ensures c.ended.ensures
