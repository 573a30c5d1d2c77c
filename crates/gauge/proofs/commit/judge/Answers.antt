-- `gauge::commit::judge`: by the type. Assumes nothing.
use mathlib.Core.Path.{sym, ◌∙◌}
use Rattle.table.specs.Rows.{at_row}
use Rattle.table.proofs.Lengths.{allowed-room}
use Rattle.gauge.proofs.CommitLaws.{card_length, card_judged, entry_judged}
use Rattle.gauge.proofs.commit.judge.Goals as goal

pub judge-requires : goal.judge-requires
judge-requires c = allowed-room (at_row c.args.row) c.requires ∙ card_length c.args.row c.kind.ensures.row (sym c.kind.ensures.kind ∙ c.if-kind-eq-CARD.true)

pub returns-then-kind-eq-CARD : goal.returns-then-kind-eq-CARD
returns-then-kind-eq-CARD c =
    c.judge.ensures ∙ sym (card_judged (at_row c.args.row) c.args.bytes.now (sym c.kind.ensures.kind ∙ c.if-kind-eq-CARD.true))

pub judge-requires-2 : goal.judge-requires-2
judge-requires-2 c = allowed-room (at_row c.args.row) c.requires

pub returns : goal.returns
returns c =
    c.judge-2.ensures ∙ sym (entry_judged (at_row c.args.row) c.args.bytes.now (λ e. c.if-kind-eq-CARD.false (c.kind.ensures.kind ∙ e)))
