-- `put_first`: a byte and four words, each two bits ahead of its field.
use mathlib.Core.Path.{◌∙◌}
use Prim.Native.Nat.{◌+◌, ◌*◌, ◌/◌}
use lib.ListN.{length-set}
use Rattle.card.proofs.Words.{first_put}
use Rattle.card.proofs.put_first.Goals as goal

pub shape_of-card : goal.shape_of-card
shape_of-card c =
    c.put_words.auto.card ∙ length-set c.args.card.now 0 (c.args.head * 4 + c.args.a / 1073741824)

pub returns : goal.returns
returns c =
    first_put c.args.card.now _ c.args.head c.args.a c.args.b c.args.c c.args.d c.args.tail _ _ _ _ c.requires.0 c.requires.2 c.ranges.a.fits c.ranges.b.fits c.ranges.c.fits c.ranges.d.fits c.joined.ensures c.joined-2.ensures c.joined-3.ensures c.joined-4.ensures c.put_words.ensures
