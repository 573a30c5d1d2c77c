-- `wire::bits_of`: no NaN is handed to `to_bits`. Assumes nothing.
use Rattle.wire.proofs.RealLaws.{no_nan}
use Rattle.wire.proofs.bits_of.Goals as goal

pub float_to_bits-result : goal.float_to_bits-result
float_to_bits-result c = no_nan c.args.p c.requires
