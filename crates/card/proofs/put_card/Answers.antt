-- `put_card`: 17 bytes and the 16 behind them are the card; an enable is one bit wide.
use mathlib.Core.Path.{◌∙◌}
use borrow.Author.Rules.{rules}
use Rattle.table.specs.Places.{settings_1, settings_2}
use Rattle.card.proofs.Fields.{point_enables}
use Rattle.card.proofs.Made.{card_made}
use Rattle.card.proofs.put_card.Goals as goal

pub enables-requires : goal.enables-requires
enables-requires c =
    rw c.point_at-one.ensures (point_enables c.args.values.now settings_1)

pub enables-requires-2 : goal.enables-requires-2
enables-requires-2 c =
    rw c.point_at-two.ensures (point_enables c.args.values.now settings_2)

pub returns : goal.returns
returns c =
    card_made c.args.values.now c.args.card.now _ _ _ _ _ _ c.fits-values (search rules) (λ k. (c.type_inv.card k).fits)
    (c.put_words.auto.card ∙ c.put_first.auto.card)
    c.requires.0
    c.point_at-one.ensures
    c.point_at-two.ensures
    c.enables.ensures.0
    c.enables-2.ensures.0
    c.put_first.ensures
    c.put_words.ensures
