-- `take_entries` meets its contract. Invariant: the first i entries are taken. Assumes nothing.
use mathlib.Core.Path.{◌≡◌, refl, ◌∙◌}
use Prim.Native.Nat.{ℕ, ◌+◌, ◌-◌, ◌≤◌, ◌<◌}
use lib.ListN.{get_or}
use native.Mathlib.Omega.{arith}
use Rattle.bits.specs.Bits.{bits}
use Rattle.block.proofs.Turns.{ats, place_at, here, rising, room, sized_here, width_here, number_known, load_begin, take-turn, load_end}
use Rattle.block.specs.Asked.{starts}
use Rattle.block.specs.Block.{width, nv_rows}
use Rattle.table.specs.Rows.{rows, nv_count}
use Rattle.load.proofs.take_entries.Goals as goal

pub loop-i-init : goal.loop-i-init
loop-i-init c = load_begin (bits c.args.block.now) c.args.values.now

-- an entry ends within the bits
span_room : (i : ℕ) (h : i < nv_count) → get_or ats i 0 + (get_or ats (i + 1) 0 - get_or ats i 0) ≤ 4096
span_room i h = omega (arith, room (here i h {at = get_or ats i 0} refl {next = get_or ats (i + 1) 0} refl))

pub overflow_sub-i : goal.overflow_sub-i
unfolding rows nv_rows width starts
overflow_sub-i c = rising c.loop-i.i c.loop-i-test.true {at = get_or ats c.loop-i.i 0} refl {next = get_or ats (c.loop-i.i + 1) 0} refl

pub take_entry-requires : goal.take_entry-requires
unfolding rows nv_rows width starts
take_entry-requires c =
    let g = here c.loop-i.i c.loop-i-test.true {at = get_or ats c.loop-i.i 0} refl {next = get_or ats (c.loop-i.i + 1) 0} refl in
    let p = c.from-place.ensures ∙ place_at c.loop-i.i c.loop-i-test.true in
    rw (c.from-at.ensures, c.from-width.ensures) (sized_here g p, width_here g, span_room c.loop-i.i c.loop-i-test.true, number_known g (bits c.args.block.now) c.requires)

pub loop-i-preserved : goal.loop-i-preserved
unfolding rows nv_rows width starts
loop-i-preserved c =
    let g = here c.loop-i.i c.loop-i-test.true {at = get_or ats c.loop-i.i 0} refl {next = get_or ats (c.loop-i.i + 1) 0} refl in
    let p = c.from-place.ensures ∙ place_at c.loop-i.i c.loop-i-test.true in
    take-turn g p (bits c.args.block.now) c.args.values.now c.loop-i.invariant (rw (c.from-at.ensures, c.from-width.ensures) at c.take_entry.ensures)

pub returns : goal.returns
returns c =
    let n : c.loop-i.i ≡ nv_count = omega arith in
    (rw n at c.loop-i.invariant) ∙ load_end (bits c.args.block.now) c.args.values.now
