-- `gauge::commit::commit`: each return is one law, given what the calls ensure. Assumes nothing.
use Rattle.std.proofs.lemmas.Result.{err_from_is_err_and}
use Rattle.gauge.proofs.CommitLaws.{commit-refused, commit_accepted}
use Rattle.gauge.proofs.commit.commit.Goals as goal

pub returns-in_err-check : goal.returns-in_err-check
returns-in_err-check c =
    let p = err_from_is_err_and c.from_residual.result c.from_residual.ensures.1 in
    rw (p.1, p.2) (commit-refused c.args.values.now c.args.block.now c.args.row c.args.bytes.now c.check.ensures _ c.in_err-check.was)

pub returns : goal.returns
returns c =
    commit_accepted c.args.values.now c.args.block.now c.args.row c.args.bytes.now c.check.ensures c.in_ok-check.was c.put.ensures
