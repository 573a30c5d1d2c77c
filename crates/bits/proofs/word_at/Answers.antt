-- `word_at`: four bytes are a field of 32 bits. Assumes nothing.
use Rattle.bits.proofs.Words.{word_turned}
use Rattle.bits.proofs.word_at.Goals as goal

pub returns : goal.returns
returns c =
    word_turned c.args.s.now c.args.at c.requires (λ i. (c.type_inv.s i).fits) _ _ c.at.ensures c.swap_bytes.ensures
