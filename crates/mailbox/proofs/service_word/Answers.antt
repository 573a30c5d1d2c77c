-- `service_word` meets its contract: two words, by the SDO's first byte.
use borrow.Author.Tests.{eq-eqb, ne_eqb}
use Rattle.mailbox.proofs.service_word.Goals as goal

pub returns-then-first-eq128 : goal.returns-then-first-eq128
returns-then-first-eq128 c = rw (c.from-counter.ensures, eq-eqb c.args.first 0x80 c.if-first-eq128.true)

pub returns : goal.returns
returns c = rw (c.from-counter.ensures, ne_eqb c.args.first 0x80 c.if-first-eq128.false)
