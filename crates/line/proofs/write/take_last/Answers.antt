-- `line::write::take_last`: each return is one law, given what the calls ensure. Assumes nothing.
use mathlib.Core.Path.{◌≡◌, refl, sym, ap, ◌∙◌}
use Prim.Native.Nat.{◌≤◌}
use native.Mathlib.Omega.{arith}
use lib.ListN.{length, take}
use lib.Seq.{length-take-le}
use borrow.Author.Rules.{rules}
use Rattle.transfer.specs.declared.Transfer.{Transfer}
use Rattle.transfer.specs.Records.{key_at}
use Rattle.transfer.proofs.RecordLaws.{all_held}
use Rattle.line.proofs.Writing.{within, row-most, concluded_told, last-refused, last-right}
use Rattle.line.proofs.write.take_last.Goals as goal

pub overflow_add-total : goal.overflow_add-total
overflow_add-total c =
    let most = row-most c.requires.1 c.requires.3 in omega (arith, most, c.requires.4, c.well_formed.1.1.1.1.1.1.0)

pub grown-requires : goal.grown-requires
grown-requires c = (row-most c.requires.1 c.requires.3, (within _ _ _ c.length_fits.ensures c.if-length_fits.true).1)

pub slice_bounds-held-end : goal.slice_bounds-held-end
slice_bounds-held-end c =
    let whole : length c.grown.result.held ≡ 64 = search rules in
    omega (arith, whole, row-most c.requires.1 c.requires.3)

pub slice_bounds-commit-end : goal.slice_bounds-commit-end
slice_bounds-commit-end c =
    let whole : length c.grown.result.held ≡ 64 = search rules in
    sym (length-take-le c.args.t.len c.grown.result.held (omega (arith, row-most c.requires.1 c.requires.3)))

pub commit-ending-requires : goal.commit-ending-requires
commit-ending-requires c =
    let whole : length c.grown.result.held ≡ 64 = search rules in
    let long = length-take-le c.args.t.len c.grown.result.held (omega (arith, row-most c.requires.1 c.requires.3)) in
    let fits = rw c.requires.2 at c.requires.3 in
    record { enough = omega (arith, long, fits.enough); not_over = omega (arith, long, fits.not_over) }

pub returns-then-length_fits : goal.returns-then-length_fits
returns-then-length_fits c =
    let most : c.args.t.len ≤ 64 = row-most c.requires.1 c.requires.3 in
    let whole : length c.args.t.held ≡ 64 = search rules in
    let inside : c.args.t.place ≤ length c.args.t.held = omega (arith, c.requires.4) in
    let in-range = within _ _ _ c.length_fits.ensures c.if-length_fits.true in
    last-right c.args.at c.args.values.now c.args.block.now c.args.state.now c.args.room.now c.args.t c.args.part.now inside refl c.length_fits.ensures c.if-length_fits.true c.part_taken.ensures c.tell.ensures
    (ap (λ (n : Transfer). take c.args.t.len n.held) c.grown.ensures ∙ all_held c.args.t c.args.part.now inside (omega arith))
    (concluded_told c.args.at c.args.state.now _ c.args.t.row c.args.values.now c.args.block.now _ c.requires.1 _ (rw (← c.requires.2) at c.commit-ending.ensures) (rw (← c.requires.2) at c.conclude.ensures))

pub returns : goal.returns
returns c =
    let most : c.args.t.len ≤ 64 = row-most c.requires.1 c.requires.3 in
    let whole : length c.args.t.held ≡ 64 = search rules in
    let inside : c.args.t.place ≤ length c.args.t.held = omega (arith, c.requires.4) in
    last-refused c.args.at c.args.values.now c.args.block.now c.args.state.now c.args.room.now c.args.t c.args.part.now inside refl c.length_fits.ensures (c.key_at.ensures ∙ ap key_at (sym c.requires.2)) c.if-length_fits.false c.misfit.ensures
