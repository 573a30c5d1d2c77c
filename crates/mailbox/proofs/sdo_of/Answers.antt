-- `sdo_of` meets its contract: a part of the mailbox, by one law.
use Rattle.mailbox.proofs.MailLaws.{sdo_lent}
use Rattle.mailbox.proofs.sdo_of.Goals as goal

pub returns : goal.returns
returns c =
    sdo_lent c.args.mailbox.now c.args.len c.requires.0 c.requires.1 c.requires.2 c.from-end.ensures
