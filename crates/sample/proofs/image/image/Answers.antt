-- `sample::image::image`: four numbers one behind the other are the image. Assumes nothing.
use Rattle.wire.proofs.FlagLaws.{from-bit}
use Rattle.sample.proofs.ImageLaws.{image_put}
use Rattle.sample.proofs.image.image.Goals as goal

pub returns : goal.returns
returns c =
    rw (c.put-4.ensures, c.put-3.ensures, c.put-2.ensures, c.put.ensures, c.at-outputs.ensures, c.at-summary.ensures, c.at-pressure.ensures, c.from-under.ensures, from-bit, c.is_set-3.ensures, c.from-over.ensures, from-bit, c.is_set-2.ensures, c.from-valid.ensures, from-bit, c.is_set.ensures)
    (image_put c.args.values.now c.args.out.now c.fits-values c.requires)
