-- `mail_of` meets its contract: each return is one law over the head, given the tests that led there.
use mathlib.Core.Path.{refl}
use native.Mathlib.Omega.{arith}
use Rattle.std.specs.Prelude.{Ok, Err}
use Rattle.mailbox.specs.Mail.{head_of as head_in}
use Rattle.mailbox.specs.declared.Unfit.TheVariants.{Misshapen, NotSdo}
use Rattle.mailbox.proofs.MailLaws.{by_head, other_size, short-field, long_field, other_type, other_service, asks}
use Rattle.mailbox.proofs.mail_of.Goals as goal

pub returns-then-datagram-ne-SIZE : goal.returns-then-datagram-ne-SIZE
returns-then-datagram-ne-SIZE c =
    by_head c.args.datagram.now (head_in c.args.datagram.now) (Err Misshapen) refl (other_size c.args.datagram.now (head_in c.args.datagram.now) (λ e. omega (arith, c.if-datagram-ne-SIZE.true, e)))

pub returns-then-head-lt-LEAST_LENGTH : goal.returns-then-head-lt-LEAST_LENGTH
returns-then-head-lt-LEAST_LENGTH c =
    by_head c.args.datagram.now c.head_of-head.result (Err Misshapen) c.head_of-head.ensures (short-field c.args.datagram.now c.head_of-head.result (omega (arith, c.if-datagram-ne-SIZE.false)) (omega (arith, c.if-head-lt-LEAST_LENGTH.true)))

pub returns-then-head-gt-MOST_LENGTH : goal.returns-then-head-gt-MOST_LENGTH
returns-then-head-gt-MOST_LENGTH c =
    by_head c.args.datagram.now c.head_of-head.result (Err Misshapen) c.head_of-head.ensures (long_field c.args.datagram.now c.head_of-head.result (omega (arith, c.if-datagram-ne-SIZE.false)) (omega (arith, c.if-head-gt-MOST_LENGTH.true)))

pub returns-then-head-ne-TYPE_COE : goal.returns-then-head-ne-TYPE_COE
returns-then-head-ne-TYPE_COE c =
    by_head c.args.datagram.now c.head_of-head.result (Err NotSdo) c.head_of-head.ensures
    (other_type c.args.datagram.now c.head_of-head.result (omega (arith, c.if-datagram-ne-SIZE.false)) (omega (arith, c.if-head-lt-LEAST_LENGTH.false)) (omega (arith, c.if-head-gt-MOST_LENGTH.false)) c.if-head-ne-TYPE_COE.true)

pub returns-then-head-ne-SDO_REQUEST : goal.returns-then-head-ne-SDO_REQUEST
returns-then-head-ne-SDO_REQUEST c =
    by_head c.args.datagram.now c.head_of-head.result (Err NotSdo) c.head_of-head.ensures
    (other_service c.args.datagram.now c.head_of-head.result (omega (arith, c.if-datagram-ne-SIZE.false)) (omega (arith, c.if-head-lt-LEAST_LENGTH.false)) (omega (arith, c.if-head-gt-MOST_LENGTH.false)) c.if-head-ne-TYPE_COE.false c.if-head-ne-SDO_REQUEST.true)

pub returns : goal.returns
returns c =
    by_head c.args.datagram.now c.head_of-head.result (Ok c.head_of-head.result) c.head_of-head.ensures
    (asks c.args.datagram.now c.head_of-head.result (omega (arith, c.if-datagram-ne-SIZE.false)) (omega (arith, c.if-head-lt-LEAST_LENGTH.false)) (omega (arith, c.if-head-gt-MOST_LENGTH.false)) c.if-head-ne-TYPE_COE.false c.if-head-ne-SDO_REQUEST.false)
