-- `good_numbers` meets its contract. Invariant: what stands before entry i is good, and its numbers are known. Assumes nothing.
use mathlib.Core.Path.{◌≡◌, refl, sym, ◌∙◌}
use native.Mathlib.Omega.{arith}
use lib.ListN.{get_or, length-set}
use borrow.Author.Tests.{eq-eqb, ne_eqb}
use Rattle.bits.specs.Bits.{bits}
use Rattle.block.proofs.Judged.{held-between}
use Rattle.block.proofs.Turns.{kinds, seen, cut_at, cut_here, room, saved-within, saved_begin, saved-on, saved_stop, saved_end, numbers_turn, all_known}
use Rattle.block.specs.Asked.{starts, cut, lowest, highest}
use Rattle.block.specs.Block.{nv_rows, width}
use Rattle.table.specs.Rows.{rows, nv_count}
use Rattle.table.specs.Rule.{pick, rank, real_rank}
use Rattle.block.proofs.good_numbers.Goals as goal

pub loop-i-init : goal.loop-i-init
loop-i-init c = record { long = omega arith; good = saved_begin (bits c.args.block.now); known = refl }

pub cut_field-v-requires : goal.cut_field-v-requires
unfolding rows nv_rows width starts cut
cut_field-v-requires c =
    let g = seen c.loop-i.i c.loop-i-test.true c.from-at.ensures in
    let q = cut_here g (c.from-cut.ensures ∙ cut_at c.loop-i.i c.loop-i-test.true) in
    (omega (arith, room g), q.0, q.1, omega (arith, room g))

pub returns-then-not-contains-clause-good : goal.returns-then-not-contains-clause-good
unfolding rows nv_rows width starts cut rank real_rank pick lowest highest
returns-then-not-contains-clause-good c =
    let g = seen c.loop-i.i c.loop-i-test.true c.from-at.ensures in
    let q = c.from-cut.ensures ∙ cut_at c.loop-i.i c.loop-i-test.true in
    let s = held-between c.new.result _ _ (get_or kinds c.loop-i.i 0) c.cut_field-v.result c.new.ensures.start c.new.ensures.end c.new.ensures.exhausted c.rank_of-rank.ensures c.contains.ensures.value in
    let e = saved_stop g (bits c.args.block.now) (saved-within g c.cut_field-v.result s c.if-not-contains.true c.args.block.now q c.cut_field-v.ensures) c.loop-i.invariant.good in
    sym (ne_eqb _ nv_count (λ n. omega arith))

pub loop-i-preserved : goal.loop-i-preserved
unfolding rows nv_rows width starts cut rank real_rank pick lowest highest
loop-i-preserved c =
    let g = seen c.loop-i.i c.loop-i-test.true c.from-at.ensures in
    let q = c.from-cut.ensures ∙ cut_at c.loop-i.i c.loop-i-test.true in
    let s = held-between c.new.result _ _ (get_or kinds c.loop-i.i 0) c.cut_field-v.result c.new.ensures.start c.new.ensures.end c.new.ensures.exhausted c.rank_of-rank.ensures c.contains.ensures.value in
    record {
      long = length-set c.loop-i.numbers c.loop-i.i _ ∙ c.loop-i.invariant.long;
      good = saved-on g (bits c.args.block.now) (saved-within g c.cut_field-v.result s c.if-not-contains.false c.args.block.now q c.cut_field-v.ensures) c.loop-i.invariant.good;
      known = numbers_turn g (bits c.args.block.now) c.loop-i.numbers q (omega arith) c.cut_field-v.ensures c.loop-i.invariant.known;
    }

pub returns-clause-good : goal.returns-clause-good
returns-clause-good c =
    let n : c.loop-i.i ≡ nv_count = omega arith in
    let e = saved_end (bits c.args.block.now) (rw n at c.loop-i.invariant.good) in
    sym (eq-eqb _ nv_count (sym e))

pub returns-clause-numbers : goal.returns-clause-numbers
returns-clause-numbers c =
    let n : c.loop-i.i ≡ nv_count = omega arith in
    λ t. all_known (bits c.args.block.now) c.loop-i.numbers c.loop-i.invariant.long (rw n at c.loop-i.invariant.known)
