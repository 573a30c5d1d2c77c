-- `take_entry` meets its contract: bytes, or a number. Assumes nothing.
use mathlib.Core.Path.{◌∙◌, ap}
use native.Mathlib.Omega.{arith}
use lib.ListN.{drop}
use Rattle.bits.specs.Bits.{bits}
use Rattle.block.proofs.Entries.{len_string, number-inside, number_fits, taken_string, taken-number}
use Rattle.wire.specs.Splice.{splice}
use Rattle.load.proofs.take_entry.Goals as goal

pub get_bytes-requires : goal.get_bytes-requires
get_bytes-requires c =
    let e = len_string c.args.kind c.args.width (omega arith) in
    (omega (arith, c.requires.0.inside), omega arith, omega arith)

pub put_number-requires : goal.put_number-requires
put_number-requires c =
    (omega (arith, number-inside c.args.kind c.args.width c.requires.1 c.requires.0 (omega arith)), number_fits c.args.kind c.args.width c.requires.1 c.requires.0 c.args.block.now c.args.at (omega arith) (c.requires.3 (omega arith)))

pub returns-then-kind-gt-REAL : goal.returns-then-kind-gt-REAL
returns-then-kind-gt-REAL c =
    c.get_bytes.ensures ∙ ap (splice c.args.values.now c.args.place) (taken_string c.args.kind c.args.width c.requires.1 (drop c.args.at (bits c.args.block.now)) (omega arith))

pub returns-else-kind-gt-REAL : goal.returns-else-kind-gt-REAL
returns-else-kind-gt-REAL c =
    c.put_number.ensures ∙ ap (splice c.args.values.now c.args.place) (taken-number c.args.kind c.args.width c.requires.1 (bits c.args.block.now) c.args.at (omega arith) (c.requires.3 (omega arith)))
