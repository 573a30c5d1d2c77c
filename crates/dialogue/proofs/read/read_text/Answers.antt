-- `read::read_text`: a message is eighteen bytes and begins with a digit. Assumes nothing.
use mathlib.Core.Path.{sym, ◌∙◌}
use native.Mathlib.Omega.{arith}
use lib.ListN.{length-drop}
use Rattle.dialogue.proofs.TextLaws.{rest_whole, message_long, message-line}
use Rattle.dialogue.specs.Text.{read}
use Rattle.dialogue.proofs.read.read_text.Goals as goal

pub bounds-text-0 : goal.bounds-text-0
bounds-text-0 c = omega (arith, message_long c.args.text.now (sym c.says_message.ensures ∙ c.if-says_message.true))

pub overflow_sub-result : goal.overflow_sub-result
overflow_sub-result c = message-line c.args.text.now (sym c.says_message.ensures ∙ c.if-says_message.true)

pub slice_bounds-bytes_of-count : goal.slice_bounds-bytes_of-count
slice_bounds-bytes_of-count c = omega (arith, message_long c.args.text.now (sym c.says_message.ensures ∙ c.if-says_message.true))

pub slice_bounds-bytes_of-start : goal.slice_bounds-bytes_of-start
slice_bounds-bytes_of-start c = omega (arith, message_long c.args.text.now (sym c.says_message.ensures ∙ c.if-says_message.true))

pub bytes_of-requires : goal.bytes_of-requires
bytes_of-requires c = rw (rest_whole c.args.text.now 2, length-drop) (omega (arith, message_long c.args.text.now (sym c.says_message.ensures ∙ c.if-says_message.true)))

pub returns-then-says_message : goal.returns-then-says_message
unfolding read
returns-then-says_message c = rw ((sym c.says_message.ensures ∙ c.if-says_message.true), c.bytes_of.ensures, rest_whole c.args.text.now 2)

pub returns : goal.returns
unfolding read
returns c = rw (sym c.says_message.ensures ∙ c.if-says_message.false)
