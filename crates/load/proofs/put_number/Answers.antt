-- `put_number`: by the type one, two or four bytes. Assumes nothing.
use mathlib.Core.Path.{◌≡◌, ◌∙◌, sym, ap}
use Prim.Native.Nat.{ℕ, ◌*◌, ◌^◌}
use native.Mathlib.Omega.{arith}
use Rattle.limits.proofs.NumberLaws.{len_word, len_pair, len_byte}
use Rattle.limits.specs.Limits.{number_len}
use Rattle.wire.specs.Little.{little}
use Rattle.wire.specs.Splice.{splice}
use Rattle.load.proofs.put_number.Goals as goal

pub put-requires : goal.put-requires
put-requires c = omega (arith, c.requires.0, len_word c.args.kind (omega arith))

pub returns-then-kind-gt-UINT : goal.returns-then-kind-gt-UINT
returns-then-kind-gt-UINT c =
    c.put.ensures ∙ ap (λ (n : ℕ). splice c.args.values.now c.args.place (little n c.args.v)) (sym (len_word c.args.kind (omega arith)))

pub put-requires-then-kind-eq-UINT : goal.put-requires-then-kind-eq-UINT
put-requires-then-kind-eq-UINT c = omega (arith, c.requires.0, len_pair c.args.kind (omega arith))

pub returns-then-kind-eq-UINT : goal.returns-then-kind-eq-UINT
returns-then-kind-eq-UINT c =
    c.put-then-kind-eq-UINT.ensures ∙ ap (λ (n : ℕ). splice c.args.values.now c.args.place (little n c.args.v)) (sym (len_pair c.args.kind (omega arith)))

pub overflow_cast-v : goal.overflow_cast-v
overflow_cast-v c =
    let e : 2 ^ (8 * number_len c.args.kind) ≡ 65536 = ap (λ (n : ℕ). 2 ^ (8 * n)) (len_pair c.args.kind (omega arith)) in
    omega (arith, c.requires.1)

pub overflow_cast-v-else-kind-eq-UINT : goal.overflow_cast-v-else-kind-eq-UINT
overflow_cast-v-else-kind-eq-UINT c =
    let e : 2 ^ (8 * number_len c.args.kind) ≡ 256 = ap (λ (n : ℕ). 2 ^ (8 * n)) (len_byte c.args.kind (omega arith)) in
    omega (arith, c.requires.1)

pub put-requires-else-kind-eq-UINT : goal.put-requires-else-kind-eq-UINT
put-requires-else-kind-eq-UINT c = omega (arith, c.requires.0, len_byte c.args.kind (omega arith))

pub returns-else-kind-eq-UINT : goal.returns-else-kind-eq-UINT
returns-else-kind-eq-UINT c =
    c.put-else-kind-eq-UINT.ensures ∙ ap (λ (n : ℕ). splice c.args.values.now c.args.place (little n c.args.v)) (sym (len_byte c.args.kind (omega arith)))
