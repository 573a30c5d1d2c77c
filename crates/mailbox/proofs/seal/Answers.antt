-- `seal` meets its contract: headers and zeros round the SDO, by one law.
use Rattle.mailbox.proofs.SealLaws.{sealed_is}
use Rattle.mailbox.proofs.seal.Goals as goal

pub returns : goal.returns
returns c =
    sealed_is c.args.answer.now c.args.head c.args.len c.requires.0 c.requires.1
    c.length_word.ensures c.service_word.ensures c.put.ensures c.put-2.ensures (c.fill.ensures.after (λ y e. e))
