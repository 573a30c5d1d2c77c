-- `board::hears_eight`: by the line. Assumes nothing.
use Rattle.board.proofs.CallLaws.{tool_hears, other_hears}
use Rattle.board.proofs.hears_eight.Goals as goal

pub returns-then-line-eq-LINE_TOOL : goal.returns-then-line-eq-LINE_TOOL
returns-then-line-eq-LINE_TOOL c = tool_hears c.args.line c.args.state.now c.if-line-eq-LINE_TOOL.true c.form_at.ensures

pub returns : goal.returns
returns c = other_hears c.args.line c.args.state.now c.if-line-eq-LINE_TOOL.false
