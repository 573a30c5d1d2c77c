-- `state::put_record`: two writes in a row are one. Assumes nothing.
use mathlib.Core.Path.{◌≡◌}
use native.Mathlib.Omega.{arith}
use lib.ListN.{length}
use borrow.Author.Rules.{rules}
use Rattle.state.proofs.StateLaws.{record_put}
use Rattle.state.proofs.put_record.Goals as goal

pub copy_at-requires : goal.copy_at-requires
copy_at-requires c =
    let h : length c.args.t.held ≡ 64 = search rules in omega (arith, c.requires)

pub returns : goal.returns
returns c =
    let h : length c.args.t.held ≡ 64 = search rules in record_put c.args.state.now c.args.at c.args.t c.requires h c.copy_at.ensures c.put_tail.ensures
