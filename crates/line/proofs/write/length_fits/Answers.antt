-- `line::write::length_fits`: by the tests. Assumes nothing.
use mathlib.Core.Path.{◌≡◌, ◌∙◌}
use mathlib.Core.Bool.{◌&&◌}
use lib.Dec.{leb}
use borrow.Author.Rules.{rules}
use Rattle.line.proofs.Writing.{between_fits}
use Rattle.line.proofs.write.length_fits.Goals as goal

pub returns : goal.returns
returns c =
    let e : c.contains.result ≡ (leb c.args.low c.args.n && leb c.args.n c.args.high) = search rules in
    e ∙ between_fits c.args.low c.args.high c.args.n
