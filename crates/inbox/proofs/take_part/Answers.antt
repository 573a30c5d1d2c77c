-- `inbox::take_part`: each return is one law, given what the calls ensure. Assumes nothing.
use mathlib.Core.Path.{◌≡◌, refl, sym, ap, ◌∙◌}
use Prim.Native.Nat.{◌≤◌}
use native.Mathlib.Omega.{arith}
use lib.ListN.{length, take}
use borrow.Author.Rules.{rules}
use Rattle.transfer.specs.declared.Transfer.{Transfer}
use Rattle.transfer.specs.Records.{key_at}
use Rattle.transfer.proofs.RecordLaws.{all_held}
use Rattle.line.proofs.Told.{room_of}
use Rattle.line.proofs.Writing.{row-most, concluded_told}
use Rattle.inbox.proofs.Sending.{part_long, part-short, part-last, part_more}
use Rattle.inbox.proofs.take_part.Goals as goal

pub overflow_add-total : goal.overflow_add-total
overflow_add-total c = let most = row-most c.requires.1 c.requires.3 in omega (arith, most, c.requires.4, c.well_formed.1.1.1.1.1.1.0)

pub returns-then-len-total : goal.returns-then-len-total
returns-then-len-total c =
    let most : c.args.t.len ≤ 64 = row-most c.requires.1 c.requires.3 in
    let whole : length c.args.t.held ≡ 64 = search rules in
    let inside : c.args.t.place ≤ length c.args.t.held = omega (arith, c.requires.4) in
    part_long c.args.at c.args.values.now c.args.block.now c.args.state.now c.args.room.now c.args.t c.args.part.now inside refl c.args.last c.if-len-total.true (c.key_at-k.ensures ∙ ap key_at (sym c.requires.2)) (rw c.into.ensures at c.refused.ensures)

pub put_part-requires : goal.put_part-requires
put_part-requires c = ((room_of c.told-state c.requires.0).inside, c.requires.5, (row-most c.requires.1 c.requires.3, c.if-len-total.false))

pub returns-then-not-last : goal.returns-then-not-last
returns-then-not-last c =
    let most : c.args.t.len ≤ 64 = row-most c.requires.1 c.requires.3 in
    let whole : length c.args.t.held ≡ 64 = search rules in
    let inside : c.args.t.place ≤ length c.args.t.held = omega (arith, c.requires.4) in
    part_more c.args.at c.args.values.now c.args.block.now c.args.state.now c.args.room.now c.args.t c.args.part.now inside refl c.if-len-total.false c.if-not-last.true c.put_part.ensures c.tell.ensures c.part_taken-eight.ensures

pub returns-then-total-len : goal.returns-then-total-len
returns-then-total-len c =
    let most : c.args.t.len ≤ 64 = row-most c.requires.1 c.requires.3 in
    let whole : length c.args.t.held ≡ 64 = search rules in
    let inside : c.args.t.place ≤ length c.args.t.held = omega (arith, c.requires.4) in
    part-short c.args.at c.args.values.now c.args.block.now c.args.state.now c.args.room.now c.args.t c.args.part.now inside refl c.if-total-len.true c.if-not-last.false (c.key_at-k-then-total-len.ensures ∙ ap key_at (sym c.requires.2)) (rw c.into-then-total-len.ensures at c.refused-then-total-len.ensures)

pub grown-next-requires : goal.grown-next-requires
grown-next-requires c = (row-most c.requires.1 c.requires.3, c.if-len-total.false)

pub shared_ref_as_front-commit : goal.shared_ref_as_front-commit
shared_ref_as_front-commit c = row-most c.requires.1 c.requires.3

pub returns : goal.returns
returns c =
    let most : c.args.t.len ≤ 64 = row-most c.requires.1 c.requires.3 in
    let whole : length c.args.t.held ≡ 64 = search rules in
    let inside : c.args.t.place ≤ length c.args.t.held = omega (arith, c.requires.4) in
    part-last c.args.at c.args.values.now c.args.block.now c.args.state.now c.args.room.now c.args.t c.args.part.now inside refl c.if-len-total.false c.if-total-len.false c.if-not-last.false c.part_taken-eight.ensures c.tell-2.ensures
    (ap (λ (n : Transfer). take c.args.t.len n.held) c.grown-next.ensures ∙ all_held c.args.t c.args.part.now inside (omega arith))
    (concluded_told c.args.at c.args.state.now _ c.args.t.row c.args.values.now c.args.block.now _ c.requires.1 _ (rw (← c.requires.2) at c.commit-ending.ensures) (rw (← c.requires.2) at c.conclude.ensures))
