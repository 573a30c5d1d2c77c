-- `gauge::commit::obey`: each return is one law, given what the calls ensure. Assumes nothing.
use mathlib.Core.Path.{sym, ◌∙◌}
use Rattle.gauge.proofs.CommitLaws.{word_right, word_wrong}
use Rattle.gauge.proofs.commit.obey.Goals as goal

pub returns-then-is_word : goal.returns-then-is_word
returns-then-is_word c =
    rw (word_right c.args.values.now c.args.block.now c.args.command c.args.bytes.now (sym c.is_word.ensures ∙ c.if-is_word.true)) c.carry_out.ensures

pub returns : goal.returns
returns c =
    word_wrong c.args.values.now c.args.block.now c.args.command c.args.bytes.now (sym c.is_word.ensures ∙ c.if-is_word.false) c.set_status.ensures
