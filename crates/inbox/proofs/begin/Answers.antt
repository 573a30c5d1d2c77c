-- `inbox::begin`: the law of a write in parts, given what the calls ensure. Assumes nothing.
use mathlib.Core.Path.{ap₂, ◌∙◌}
use mathlib.Core.List.{List}
use Prim.Native.Nat.{ℕ}
use lib.ListN.{length}
use Rattle.transfer.specs.declared.Direction.TheVariants.{Writes}
use Rattle.transfer.specs.Turns.{opened_record}
use Rattle.line.proofs.Writing.{parts_opened}
use Rattle.inbox.proofs.begin.Goals as goal

pub returns : goal.returns
returns c =
    parts_opened c.args.at c.args.state.now c.args.room.now c.args.k c.args.row c.args.len c.args.bytes.now c.requires.1.0 (c.opened-next.ensures ∙ ap₂ (λ (r : ℕ) (h : List ℕ). opened_record Writes r h c.args.len (length c.args.bytes.now)) c.number.ensures.number c.copy_at.ensures) c.write_opened.ensures c.going.ensures
