-- `going` meets its contract: a transfer in the other direction does not go.
use mathlib.Core.Path.{◌≡◌, refl, sym, ◌∙◌}
use mathlib.Core.Bool.{true, false≢true, ◌&&◌}
use Prim.Native.Nat.{ℕ}
use denote.Enum.Bare.{sameb}
use Rattle.transfer.specs.declared.Direction.{Direction}
use Rattle.transfer.specs.declared.Direction.TheVariants.{Neither, Reads, Writes}
use Rattle.transfer.specs.contracts.Direction.{the_type}
use Rattle.transfer.specs.Records.{fitting, counts}
use Rattle.transfer.specs.Turns.{goes}
use Rattle.transfer.proofs.going.Goals as goal

same : (d e : Direction) → sameb the_type e d ≡ goes d e
unfolding goes
same Neither Neither = refl
same Neither Reads = refl
same Neither Writes = refl
same Reads Neither = refl
same Reads Reads = refl
same Reads Writes = refl
same Writes Neither = refl
same Writes Reads = refl
same Writes Writes = refl

fits : (d e : Direction) (row len place : ℕ) → goes d e ≡ true → fitting row d len place ≡ (goes d e && fitting row e len place)
unfolding goes
fits Neither Neither row len place h = refl
fits Neither Reads row len place h = absurd (false≢true h)
fits Neither Writes row len place h = absurd (false≢true h)
fits Reads Neither row len place h = absurd (false≢true h)
fits Reads Reads row len place h = refl
fits Reads Writes row len place h = absurd (false≢true h)
fits Writes Neither row len place h = absurd (false≢true h)
fits Writes Reads row len place h = absurd (false≢true h)
fits Writes Writes row len place h = refl

pub returns-then-eq : goal.returns-then-eq
unfolding counts
returns-then-eq c =
    let t = c.args.t in
    rw (c.counts.ensures, fits c.args.d t.direction t.row t.len t.place (sym (same c.args.d t.direction) ∙ sym c.if-eq.ensures))

pub returns : goal.returns
returns c = rw (sym (same c.args.d c.args.t.direction) ∙ sym c.if-eq.ensures)
