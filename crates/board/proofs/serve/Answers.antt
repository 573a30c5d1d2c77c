-- `board::serve`: each return is one law, given what the calls ensure. Assumes nothing.
use mathlib.Core.Path.{sym, ◌∙◌}
use Rattle.board.specs.Calls.{number_of}
use Rattle.board.proofs.CallLaws.{abort_served, answer-served}
use Rattle.board.proofs.serve.Goals as goal

pub returns-in-None : goal.returns-in-None
unfolding number_of
returns-in-None c =
    abort_served c.args.line c.args.message.now c.args.values.now c.args.block.now c.args.state.now c.args.answer.now c.place_of-at.ensures.0 (sym c.heard_of.ensures ∙ c.in-None.is) c.clear_record.ensures

pub returns-in-Some : goal.returns-in-Some
unfolding number_of
returns-in-Some c =
    answer-served c.args.line c.args.message.now c.args.values.now c.args.block.now c.args.state.now c.args.answer.now c.place_of-at.ensures.0 c.in-Some.said (sym c.heard_of.ensures ∙ c.in-Some.is) c.speak.ensures
