-- `line::write::open_parts`: each return is one law, given what the calls ensure. Assumes nothing.
use mathlib.Core.Path.{sym, ap₂, ◌∙◌}
use mathlib.Core.List.{List, []}
use Prim.Native.Nat.{ℕ}
use native.Mathlib.Omega.{arith}
use lib.ListN.{replicate}
use Rattle.wire.proofs.SpliceLaws.{splice_none}
use Rattle.transfer.specs.declared.Direction.TheVariants.{Writes}
use Rattle.transfer.specs.Turns.{opened_record}
use Rattle.line.proofs.Writing.{parts_opened}
use Rattle.line.proofs.write.open_parts.Goals as goal

pub returns : goal.returns
returns c =
    parts_opened c.args.at c.args.state.now c.args.room.now c.args.k c.args.row c.args.len [] (omega arith) (c.opened-next.ensures ∙ ap₂ (λ (r : ℕ) (h : List ℕ). opened_record Writes r h c.args.len 0) c.number.ensures.number (sym (splice_none (replicate 64 0) 0))) c.write_opened.ensures c.going.ensures
