-- `serve::reply`: no message, no answer, an answer. Assumes nothing.
use Rattle.std.proofs.Common.{List, ℕ, sym, ap, ◌∙◌, arith, rules}
use Rattle.dialogue.specs.Text.{unknown_text, none_text, answer_text}
use Rattle.dialogue.proofs.TextLaws.{text_put, length-answer}
use Rattle.talk.specs.Turns.{turn, taken}
use Rattle.talk.proofs.TurnLaws.{none_taken, answer-taken}
use Rattle.talk.proofs.serve.reply.Goals as goal

pub returns-in_default : goal.returns-in_default
unfolding unknown_text taken
returns-in_default c =
    (omega arith, rw c.in_default.is (ap (λ (t : List ℕ). turn t c.args.memory.now) (text_put unknown_text _ _ _ c.put_unknown.ensures.0 c.put_unknown.ensures.1)))

pub returns-then-unanswered : goal.returns-then-unanswered
unfolding none_text
returns-then-unanswered c =
    (omega arith, rw c.in-Some.is (none_taken c.in-Some.message c.args.memory.now c.gauge_message-number.result _ _ _ _ _ (rw c.from.ensures at c.gauge_message-number.ensures) c.if-unanswered.true (text_put (none_text c.in-Some.message.line) _ _ _ c.put_none.ensures.0 c.put_none.ensures.1)))

pub returns : goal.returns
returns c =
    (omega arith, rw c.in-Some.is (answer-taken c.in-Some.message c.args.memory.now c.gauge_message-number.result _ _ _ _ _ (rw c.from.ensures at c.gauge_message-number.ensures) c.if-unanswered.false (text_put (answer_text c.in-Some.message.line _) _ _ _ (c.put_answer.ensures.0 ∙ sym (length-answer c.in-Some.message.line _ (search rules))) c.put_answer.ensures.1)))
