-- `fields_1`: the fields of trip point 1, cut out of a byte and four words.
use Rattle.card.proofs.Words.{fields_1}
use native.Mathlib.Omega.{arith}
use Rattle.enter.proofs.fields_1.Goals as goal

pub returns : goal.returns
returns c =
    fields_1 c.args.card.now c.requires _ _ _ _ _ _ _ _ _ c.from-head.ensures (omega arith) c.word_at-a.ensures c.word_at-b.ensures c.word_at-c.ensures c.word_at-d.ensures c.cut.ensures c.cut-2.ensures c.cut-3.ensures c.cut-4.ensures
