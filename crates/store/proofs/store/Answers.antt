-- `store`: of values with no trip point crossed; the block is written when all entries went into a fresh one. Assumes nothing.
use mathlib.Core.Path.{sym, ◌∙◌}
use native.Mathlib.Omega.{arith}
use Rattle.block.proofs.Whole.{store-crossed, store-refused, store-done}
use Rattle.store.proofs.store.Goals as goal

pub returns-then-n-lt-NV_ROWS : goal.returns-then-n-lt-NV_ROWS
returns-then-n-lt-NV_ROWS c =
    store-refused c.args.values.now c.args.block.now (sym c.is_straight.ensures ∙ c.if-is_straight.true) c.fill_block-n.ensures.0 (omega (arith, c.if-n-lt-NV_ROWS.true))

pub returns-then-is_straight : goal.returns-then-is_straight
returns-then-is_straight c =
    store-done c.args.values.now c.args.block.now (sym c.is_straight.ensures ∙ c.if-is_straight.true) c.fill_block-n.ensures.0 (omega arith) c.told-values _ c.fill_block-n.ensures.1 c.write_block.ensures.block c.write_block.ensures.bytes (omega arith)

pub returns : goal.returns
returns c =
    store-crossed c.args.values.now c.args.block.now c.is_straight.ensures c.if-is_straight.false
