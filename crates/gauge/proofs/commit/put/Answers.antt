-- `gauge::commit::put`: each return is one law, given what the calls ensure. Assumes nothing.
use mathlib.Core.Path.{sym, ◌∙◌}
use native.Mathlib.Omega.{arith}
use Rattle.table.specs.Rows.{at_row}
use Rattle.table.proofs.Lengths.{allowed-room}
use Rattle.gauge.proofs.CommitLaws.{card_length, other_held, put_card, put_command, put_other}
use Rattle.gauge.proofs.RowTests.{mask_told}
use Rattle.gauge.proofs.commit.put.Goals as goal

pub write-requires : goal.write-requires
write-requires c = allowed-room (at_row c.args.row) c.requires ∙ card_length c.args.row c.kind.ensures.row (sym c.kind.ensures.kind ∙ c.in-7.is)

pub returns-in-7 : goal.returns-in-7
returns-in-7 c =
    put_card c.args.values.now c.args.block.now (at_row c.args.row) c.args.bytes.now c.kind.result c.kind.ensures.kind c.in-7.is c.write.ensures

pub returns-in-8 : goal.returns-in-8
returns-in-8 c =
    put_command c.args.values.now c.args.block.now (at_row c.args.row) c.args.bytes.now c.kind.result c.kind.ensures.kind c.in-8.is (c.obey.ensures ∙ rw c.command_at.ensures)

pub store_entry-at-requires : goal.store_entry-at-requires
store_entry-at-requires c =
    allowed-room (at_row c.args.row) c.requires ∙ sym (other_held c.args.row c.kind.ensures.row (λ e. omega (arith, e)) (λ e. omega (arith, e)))

pub returns-in_default : goal.returns-in_default
returns-in_default c =
    put_other c.args.values.now c.args.block.now (at_row c.args.row) c.args.bytes.now c.kind.result c.kind.ensures.kind (λ e. omega (arith, e)) (λ e. omega (arith, e)) c.store_entry-at.ensures.values (mask_told c.args.row c.kind.ensures.row c.store_entry-at.ensures.place c.is_among-came.ensures) c.heed.ensures
