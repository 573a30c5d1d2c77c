-- `gauge::read::value_of`: each return is one law, given what the calls ensure. Assumes nothing.
use mathlib.Core.Path.{◌∙◌}
use native.Mathlib.Omega.{arith}
use Rattle.table.specs.Rows.{at_row}
use Rattle.gauge.proofs.CommitLaws.{read_card, read_command, read_other, word_left}
use Rattle.gauge.proofs.read.value_of.Goals as goal

pub returns-in-0-to-6 : goal.returns-in-0-to-6
returns-in-0-to-6 c =
    read_other (at_row c.args.row) c.args.values.now c.kind.result c.kind.ensures.kind (λ e. omega (arith, e)) (λ e. omega (arith, e)) c.read_entry.ensures

pub returns-in-7 : goal.returns-in-7
returns-in-7 c =
    read_card (at_row c.args.row) c.args.values.now c.kind.result c.kind.ensures.kind c.in-7.is c.card_of.ensures

pub command_at-requires : goal.command_at-requires
command_at-requires c =
    word_left c.args.row c.kind.result c.kind.ensures.row c.kind.ensures.kind (omega arith) (λ e. omega (arith, e))

pub returns-in_default : goal.returns-in_default
returns-in_default c =
    read_command (at_row c.args.row) c.args.values.now c.kind.result c.kind.ensures.kind (c.kind.ensures.kind ∙ word_left c.args.row c.kind.result c.kind.ensures.row c.kind.ensures.kind (omega arith) (λ e. omega (arith, e))) (c.reading.ensures ∙ rw c.command_at.ensures)
