-- `gate::way`: each return is one law, given what the calls ensure. Assumes nothing.
use mathlib.Core.Path.{sym}
use Rattle.std.proofs.lemmas.Result.{err_from_is_err_and}
use Rattle.gate.proofs.GateLaws.{barred_row, allowed-row, stays_shut}
use Rattle.gate.proofs.way.Goals as goal

pub returns-in_err-row : goal.returns-in_err-row
returns-in_err-row c =
    let p = err_from_is_err_and c.from_residual.result c.from_residual.ensures.1 in
    rw (p.1, p.2) (stays_shut c.args.barred c.args.abort c.args.index c.args.sub c.find.ensures _ c.in_err-row.was)

pub returns-then-eq : goal.returns-then-eq
returns-then-eq c =
    barred_row c.args.barred c.args.abort c.args.index c.args.sub c.find.ensures c.in_ok-row.row c.access.result c.in_ok-row.was c.access.ensures (sym c.if-eq.ensures)

pub returns : goal.returns
returns c =
    allowed-row c.args.barred c.args.abort c.args.index c.args.sub c.find.ensures c.in_ok-row.row c.access.result c.in_ok-row.was c.access.ensures (sym c.if-eq.ensures)
