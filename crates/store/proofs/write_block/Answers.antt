-- `write_block` meets its contract. Assumes nothing.
use native.Mathlib.Omega.{arith}
use Rattle.block.proofs.Whole.{fresh-over}
use Rattle.store.proofs.write_block.Goals as goal

pub returns : goal.returns
returns c =
    record {
      block = fresh-over c.args.fresh.now c.told-block (omega arith) (c.fill.ensures.after (λ y e. e)) c.copy_at.ensures;
      bytes = c.fits-fresh;
    }
