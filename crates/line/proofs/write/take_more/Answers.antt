-- `line::write::take_more`: each return is one law, given what the calls ensure. Assumes nothing.
use mathlib.Core.Path.{◌≡◌, ap, sym, ◌∙◌}
use Prim.Native.Nat.{◌≤◌}
use native.Mathlib.Omega.{arith}
use lib.ListN.{length}
use borrow.Author.Rules.{rules}
use mathlib.Core.Path.{refl}
use Rattle.transfer.specs.Records.{key_at}
use Rattle.line.proofs.Writing.{row-most, more_refused, more_taken}
use Rattle.line.proofs.write.take_more.Goals as goal

pub overflow_add-total : goal.overflow_add-total
overflow_add-total c =
    let most = row-most c.requires.1 c.requires.3 in omega (arith, most, c.requires.4, c.well_formed.1.1.1.1.0)

pub returns-then-t-total : goal.returns-then-t-total
returns-then-t-total c =
    let most : c.args.t.len ≤ 64 = row-most c.requires.1 c.requires.3 in
    let whole : length c.args.t.held ≡ 64 = search rules in
    let inside : c.args.t.place ≤ length c.args.t.held = omega (arith, c.requires.4) in
    more_refused c.args.at c.args.state.now c.args.room.now c.args.t c.args.part.now inside refl (c.key_at-k.ensures ∙ ap key_at (sym c.requires.2)) c.if-t-total.true (rw c.into.ensures at c.refused.ensures)

pub put_part-requires : goal.put_part-requires
put_part-requires c = (c.requires.0.inside, c.requires.5, (row-most c.requires.1 c.requires.3, c.if-t-total.false))

pub returns : goal.returns
returns c =
    let most : c.args.t.len ≤ 64 = row-most c.requires.1 c.requires.3 in
    let whole : length c.args.t.held ≡ 64 = search rules in
    let inside : c.args.t.place ≤ length c.args.t.held = omega (arith, c.requires.4) in
    more_taken c.args.at c.args.state.now c.args.room.now c.args.t c.args.part.now inside refl c.if-t-total.false c.put_part.ensures c.tell.ensures c.part_taken-eight.ensures
