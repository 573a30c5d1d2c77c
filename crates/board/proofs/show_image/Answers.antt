-- `board::show_image`: each return is one law, given what the calls ensure. Assumes nothing.
use Rattle.board.specs.Calls.{number_of}
use Rattle.board.proofs.CallLaws.{image-values, image-room, image-done}
use Rattle.board.proofs.show_image.Goals as goal

pub returns-in_default : goal.returns-in_default
unfolding number_of
returns-in_default c = image-values c.args.values.now c.args.image.now c.in_default.ensures.cases

pub returns-then-image-lt-IMAGE_SIZE : goal.returns-then-image-lt-IMAGE_SIZE
unfolding number_of
returns-then-image-lt-IMAGE_SIZE c = image-room c.args.values.now c.args.image.now c.in-Some.ensures.cases.long c.if-image-lt-IMAGE_SIZE.true

pub returns : goal.returns
unfolding number_of
returns c = image-done c.args.values.now c.args.image.now c.in-Some.ensures.cases.long c.if-image-lt-IMAGE_SIZE.false (rw c.in-Some.ensures.cases.same at c.image.ensures)
