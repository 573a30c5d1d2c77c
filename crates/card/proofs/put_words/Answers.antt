-- `put_words`: four words, one behind the other.
use Rattle.card.proofs.Words.{words_put}
use Rattle.card.proofs.put_words.Goals as goal

pub returns : goal.returns
returns c =
    words_put c.args.card.now _ _ _ _ c.args.at c.args.a c.args.b c.args.c c.args.d c.requires c.put_word.ensures c.put_word-2.ensures c.put_word-3.ensures c.put_word-4.ensures
