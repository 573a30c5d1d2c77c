-- `save_entry` meets its contract: bytes, or a field. Assumes nothing.
use mathlib.Core.Path.{◌≡◌, ◌∙◌, ap}
use Prim.Native.Nat.{ℕ, ◌+◌, ◌-◌, ◌/◌, ◌%◌}
use native.Mathlib.Omega.{arith}
use lib.ListN.{take, drop}
use Rattle.std.proofs.lemmas.List.{length-take}
use Rattle.bits.specs.Bits.{bits}
use Rattle.block.proofs.Entries.{len_string, entry_some, entry_narrow, saved_string, saved_as_field}
use Rattle.block.proofs.Zeros.{zero_said}
use Rattle.wire.specs.Splice.{splice}
use Rattle.store.proofs.save_entry.Goals as goal

pub slice_bounds-put_bytes-end-then-kind-gt-REAL : goal.slice_bounds-put_bytes-end-then-kind-gt-REAL
slice_bounds-put_bytes-end-then-kind-gt-REAL c = omega (arith, c.requires.0.inside, len_string c.args.kind c.args.width (omega arith))

pub put_bytes-requires : goal.put_bytes-requires
put_bytes-requires c =
    let l = length-take (c.args.place + c.args.width / 8 - c.args.place) (drop c.args.place c.args.values.now) in
    (omega (arith, l), omega (arith, l))

pub add_field-requires : goal.add_field-requires
add_field-requires c =
    let w = entry_narrow c.args.kind c.args.width c.requires.1 c.requires.0 (omega arith) in
    (omega arith, entry_some c.args.kind c.args.width c.requires.1 c.requires.0, w, omega arith, c.requires.4 (omega arith), zero_said (bits c.args.block.now) c.args.at (64 - c.args.at % 8) c.requires.5)

pub returns-then-kind-gt-REAL : goal.returns-then-kind-gt-REAL
returns-then-kind-gt-REAL c =
    let n : c.args.place + c.args.width / 8 - c.args.place ≡ c.args.width / 8 = omega arith in
    c.put_bytes.ensures
    ∙ ap (λ (k : ℕ). splice (bits c.args.block.now) c.args.at (bits (take k (drop c.args.place c.args.values.now)))) n
    ∙ ap (splice (bits c.args.block.now) c.args.at) (saved_string c.args.kind c.args.width c.requires.1 c.args.values.now c.args.place (omega arith))

pub returns-else-kind-gt-REAL : goal.returns-else-kind-gt-REAL
returns-else-kind-gt-REAL c =
    c.add_field.ensures ∙ ap (splice (bits c.args.block.now) c.args.at) (saved_as_field c.args.kind c.args.width c.requires.1 c.args.values.now c.args.place (omega arith) c.requires.3)
