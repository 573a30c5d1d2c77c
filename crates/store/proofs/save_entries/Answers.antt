-- `save_entries` meets its contract. Invariant: what stands before entry i is good and saved. Assumes nothing.
use mathlib.Core.Path.{◌≡◌, ◌∙◌, refl}
use Prim.Native.Nat.{◌*◌}
use native.Mathlib.Omega.{arith}
use lib.ListN.{length, get_or}
use Rattle.bits.proofs.Numbers.{length-bits}
use Rattle.bits.specs.Bits.{bits}
use Rattle.block.proofs.Judged.{held-between}
use Rattle.block.proofs.Turns.{kinds, ats, place_at, seen, here, rising, number-room, room, sized_here, width_here, held-within, held_begin, held_on, held_stop, held_end, fits_here, zero_here, save_begin, save_turn}
use Rattle.block.specs.Asked.{starts, lowest, highest, fresh_bytes}
use Rattle.block.specs.Block.{width, nv_rows}
use Rattle.table.specs.Rows.{rows, nv_count}
use Rattle.table.specs.Rule.{pick, rank, real_rank}
use Rattle.store.proofs.save_entries.Goals as goal

pub loop-i-init : goal.loop-i-init
loop-i-init c = record { good = held_begin c.args.values.now; stored = save_begin (bits c.args.block.now) c.args.values.now }

pub number_by-v-requires : goal.number_by-v-requires
unfolding rows nv_rows
number_by-v-requires c =
    let g = seen c.loop-i.i c.loop-i-test.true {at = get_or ats c.loop-i.i 0} refl in
    let p = c.from-place.ensures ∙ place_at c.loop-i.i c.loop-i-test.true in
    omega (arith, number-room g p)

pub returns-then-not-contains : goal.returns-then-not-contains
unfolding rows nv_rows width starts rank real_rank pick lowest highest
returns-then-not-contains c =
    let g = seen c.loop-i.i c.loop-i-test.true {at = get_or ats c.loop-i.i 0} refl in
    let p = c.from-place.ensures ∙ place_at c.loop-i.i c.loop-i-test.true in
    let s = held-between c.new.result _ _ (get_or kinds c.loop-i.i 0) c.number_by-v.result c.new.ensures.start c.new.ensures.end c.new.ensures.exhausted c.rank_of-rank.ensures c.contains.ensures.value in
    (held_stop g c.args.values.now (held-within g c.number_by-v.result s c.if-not-contains.true c.args.values.now p c.fits-values c.number_by-v.ensures) c.loop-i.invariant.good, c.loop-i.invariant.stored)

pub overflow_sub-width : goal.overflow_sub-width
unfolding rows nv_rows width starts
overflow_sub-width c = rising c.loop-i.i c.loop-i-test.true c.from-at.ensures c.from.ensures

pub save_entry-requires : goal.save_entry-requires
unfolding rows nv_rows width starts rank real_rank pick lowest highest
save_entry-requires c =
    let g = here c.loop-i.i c.loop-i-test.true c.from-at.ensures c.from.ensures in
    let p = c.from-place.ensures ∙ place_at c.loop-i.i c.loop-i-test.true in
    let s = held-between c.new.result _ _ (get_or kinds c.loop-i.i 0) c.number_by-v.result c.new.ensures.start c.new.ensures.end c.new.ensures.exhausted c.rank_of-rank.ensures c.contains.ensures.value in
    let n : length (bits c.args.block.now) ≡ 8 * fresh_bytes = omega (arith, length-bits c.args.block.now) in (
      sized_here g p,
      width_here g,
      omega (arith, room g),
      c.number_by-v.ensures,
      fits_here g p c.args.values.now c.told-values c.fits-values (held-within g c.number_by-v.result s c.if-not-contains.false c.args.values.now p c.fits-values c.number_by-v.ensures) c.number_by-v.ensures,
      zero_here g p c.args.values.now c.told-values (bits c.args.block.now) n c.requires c.loop-i.invariant.stored,
    )

pub loop-i-preserved : goal.loop-i-preserved
unfolding rows nv_rows width starts rank real_rank pick lowest highest
loop-i-preserved c =
    let g = here c.loop-i.i c.loop-i-test.true c.from-at.ensures c.from.ensures in
    let p = c.from-place.ensures ∙ place_at c.loop-i.i c.loop-i-test.true in
    let s = held-between c.new.result _ _ (get_or kinds c.loop-i.i 0) c.number_by-v.result c.new.ensures.start c.new.ensures.end c.new.ensures.exhausted c.rank_of-rank.ensures c.contains.ensures.value in
    let n : length (bits c.args.block.now) ≡ 8 * fresh_bytes = omega (arith, length-bits c.args.block.now) in
    record {
      good = held_on g c.args.values.now (held-within g c.number_by-v.result s c.if-not-contains.false c.args.values.now p c.fits-values c.number_by-v.ensures) c.loop-i.invariant.good;
      stored = save_turn g p c.args.values.now c.told-values (bits c.args.block.now) n c.loop-i.invariant.stored c.save_entry.ensures;
    }

pub returns : goal.returns
returns c =
    let n : c.loop-i.i ≡ nv_count = omega arith in
    (held_end c.args.values.now (rw n at c.loop-i.invariant.good), rw n at c.loop-i.invariant.stored)
