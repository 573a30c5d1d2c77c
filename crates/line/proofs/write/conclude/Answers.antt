-- `line::write::conclude`: by the ending. Assumes nothing.
use mathlib.Core.Path.{ap, ap₂, ◌∙◌}
use mathlib.Core.List.{List}
use Prim.Native.Nat.{ℕ}
use Rattle.order.specs.Talk.{refused}
use Rattle.sdo.specs.declared.Key.{Key}
use Rattle.sdo.specs.Eight.{answer_of}
use Rattle.transfer.specs.Records.{zero_record}
use Rattle.line.specs.Serving.{laid, put_down, ended_by}
use Rattle.line.proofs.write.conclude.Goals as goal

pub returns-in-Ok-Plainly : goal.returns-in-Ok-Plainly
unfolding ended_by
returns-in-Ok-Plainly c = rw (c.in-Ok-Plainly.is, rw c.in-Ok-Plainly.is at c.in-Ok-Plainly.field-0-is) (ap (λ (x : List ℕ). laid x c.args.room.now) c.clear_record.ensures)

pub returns-in-Ok-Restarting : goal.returns-in-Ok-Restarting
unfolding ended_by
returns-in-Ok-Restarting c = rw (c.in-Ok-Restarting.is, rw c.in-Ok-Restarting.is at c.in-Ok-Restarting.field-0-is) (ap (λ (x : List ℕ). laid x c.args.room.now) c.drop_all.ensures)

pub returns-in-Err : goal.returns-in-Err
unfolding ended_by
returns-in-Err c =
    rw c.in-Err.is (c.refused.ensures ∙ ap₂ (λ (k : Key) (code : ℕ). put_down c.args.at c.args.state.now c.args.room.now zero_record (answer_of (refused k code))) c.key_at.ensures c.into.ensures)
