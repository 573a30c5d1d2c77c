-- `gauge::crossing::leaves_crossed`: the card whole, an entry by one point after the other. Assumes nothing.
use mathlib.Core.Path.{sym, ◌∙◌}
use native.Mathlib.Omega.{arith}
use Rattle.table.specs.Rows.{at_row}
use Rattle.table.specs.Places.{of_point_1, of_point_2, settings_1, settings_1_size, settings_2, settings_2_size}
use Rattle.table.proofs.Lengths.{allowed-room}
use Rattle.gauge.proofs.CommitLaws.{card_length}
use Rattle.gauge.proofs.CrossingLaws.{trip_1, trip_2, entry_fits, entry_judged, command_unjudged, card_judged}
use Rattle.gauge.proofs.crossing.leaves_crossed.Goals as goal

pub is_crossed-requires : goal.is_crossed-requires
is_crossed-requires c = allowed-room (at_row c.args.row) c.requires ∙ card_length c.args.row c.kind-kind.ensures.row (sym c.kind-kind.ensures.kind ∙ c.if-kind-eq-CARD.true)

pub returns-then-kind-eq-CARD : goal.returns-then-kind-eq-CARD
returns-then-kind-eq-CARD c =
    c.is_crossed.ensures ∙ card_judged (at_row c.args.row) c.args.values.now c.args.bytes.now (sym c.kind-kind.ensures.kind ∙ c.if-kind-eq-CARD.true) c.told-values

pub returns-then-kind-eq-COMMAND : goal.returns-then-kind-eq-COMMAND
returns-then-kind-eq-COMMAND c =
    command_unjudged c.args.row c.kind-kind.ensures.row (sym c.kind-kind.ensures.kind ∙ c.if-kind-eq-COMMAND.true) c.args.values.now c.args.bytes.now

pub returns-then-entry_crosses : goal.returns-then-entry_crosses
returns-then-entry_crosses c =
    rw (← entry_judged of_point_1 settings_1 settings_1_size trip_1 c.args.row c.kind-kind.ensures.row c.place-at.ensures.place c.args.values.now c.args.bytes.now (λ q. c.if-kind-eq-CARD.false (c.kind-kind.ensures.kind ∙ q)) c.entry_crosses.ensures, c.if-entry_crosses.true)

pub returns : goal.returns
returns c =
    rw (← entry_judged of_point_1 settings_1 settings_1_size trip_1 c.args.row c.kind-kind.ensures.row c.place-at.ensures.place c.args.values.now c.args.bytes.now (λ q. c.if-kind-eq-CARD.false (c.kind-kind.ensures.kind ∙ q)) c.entry_crosses.ensures, c.if-entry_crosses.false)
    (entry_judged of_point_2 settings_2 settings_2_size trip_2 c.args.row c.kind-kind.ensures.row c.place-at.ensures.place c.args.values.now c.args.bytes.now (λ q. c.if-kind-eq-CARD.false (c.kind-kind.ensures.kind ∙ q)) c.entry_crosses-2.ensures)

pub entry_crosses-requires : goal.entry_crosses-requires
entry_crosses-requires c =
    (omega arith, omega arith, entry_fits of_point_1 settings_1 settings_1_size trip_1 c.args.row c.kind-kind.ensures.row c.place-at.ensures.place (allowed-room (at_row c.args.row) c.requires))

pub entry_crosses-requires-2 : goal.entry_crosses-requires-2
entry_crosses-requires-2 c =
    (omega arith, omega arith, entry_fits of_point_2 settings_2 settings_2_size trip_2 c.args.row c.kind-kind.ensures.row c.place-at.ensures.place (allowed-room (at_row c.args.row) c.requires))
