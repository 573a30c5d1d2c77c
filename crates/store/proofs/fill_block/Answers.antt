-- `fill_block` meets its contract: layout and model, then the entries. Assumes nothing.
use mathlib.Core.List.{List}
use mathlib.Core.Path.{◌∙◌, ap}
use Prim.Native.Nat.{ℕ}
use lib.ListN.{take, drop}
use Rattle.block.proofs.Whole.{header_only, no_entries}
use Rattle.block.specs.Block.{saved, all_zero}
use Rattle.block.specs.Saved.{saved_rows}
use Rattle.wire.specs.Splice.{splice}
use Rattle.store.proofs.fill_block.Goals as goal

pub save_entries-requires : goal.save_entries-requires
save_entries-requires c =
    ap (λ (x : List ℕ). all_zero (drop 8 x)) (header_only c.args.block.now _ _ c.requires c.put_field.ensures c.put_field-2.ensures) ∙ no_entries

pub returns : goal.returns
returns c =
    (c.save_entries.ensures.0, c.save_entries.ensures.1 ∙ ap (λ (x : List ℕ). splice x 8 (saved c.args.values.now (take c.save_entries.result saved_rows))) (header_only c.args.block.now _ _ c.requires c.put_field.ensures c.put_field-2.ensures))
