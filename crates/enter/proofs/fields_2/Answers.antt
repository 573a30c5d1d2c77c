-- `fields_2`: the enables of trip point 2 and its four words.
use Rattle.card.proofs.Words.{fields_2}
use native.Mathlib.Omega.{arith}
use Rattle.enter.proofs.fields_2.Goals as goal

pub returns : goal.returns
returns c =
    fields_2 c.args.card.now c.requires _ _ _ _ _ c.from-head.ensures (omega arith) c.word_at-a.ensures c.word_at-b.ensures c.word_at-c.ensures c.word_at-d.ensures
