-- `number_after`: from the bytes where they are to stand, from the values elsewhere.
use mathlib.Core.Path.{◌∙◌}
use native.Mathlib.Omega.{arith}
use Rattle.limits.specs.Limits.{number_len}
use Rattle.crossed.proofs.CrossedLaws.{number-own, own_room, number_else}
use Rattle.crossed.proofs.number_after.Goals as goal

pub number_by-requires : goal.number_by-requires
number_by-requires c =
    omega (arith, own_room c.args.values.now c.args.bytes.now c.args.at (number_len c.args.kind) c.args.place (omega arith) c.requires.2 c.if-at-place.true)

pub returns-then-at-place : goal.returns-then-at-place
returns-then-at-place c =
    c.number_by.ensures ∙ number-own c.args.values.now c.args.bytes.now c.args.at (number_len c.args.kind) c.args.place (omega arith) c.requires.2 c.if-at-place.true

pub returns : goal.returns
returns c =
    c.number_by-2.ensures ∙ number_else c.args.values.now c.args.bytes.now c.args.at (number_len c.args.kind) c.args.place (omega arith) c.requires.2 c.if-at-place.false
