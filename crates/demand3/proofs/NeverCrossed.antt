-- NO TRIP POINT IS EVER CROSSED: from power-up, whatever calls come.
use mathlib.Core.Path.{◌≡◌, ◌∙◌}
use mathlib.Core.Bool.{true}
use mathlib.Core.List.{List}
use Prim.Native.Nat.{ℕ}
use Rattle.crossed.specs.Crossed.{straight}
use Rattle.gauge.proofs.GaugeLaws.{passed_straight}
use Rattle.gauge.proofs.StraightLaws.{sample-straight, status_straight, cleared_straight, taken-straight, fresh-straight, written-straight}
use Rattle.board.specs.Calls.{power_up_call}
use Rattle.demand3.specs.Firmware.{Exported, final, power_on}
use Rattle.demand3.proofs.Ever.{Lasts, ever}

abbrev Straight : List ℕ → Type 0
Straight values = straight values ≡ true

straight_lasts : Lasts Straight
straight_lasts =
    record {
      fresh = fresh-straight;
      sample = λ values was p valid faults seconds long h. sample-straight values was p valid faults seconds long ∙ h;
      status = λ c code values long h. status_straight values long c code ∙ h;
      cleared = λ values long h. cleared_straight values long ∙ h;
      taken = taken-straight;
      written = λ k there writable n bytes size values pass long h.
          let off = passed_straight k bytes values pass in
          written-straight k there n values bytes long size off.0 off.1 h;
    }

-- THEOREM: after every list of calls of the C firmware no trip point has both sides enabled with its low level not below its high one
pub never_crossed : (form : ℕ) (v b s : List ℕ) → (power_up_call form v b s).number ≡ 0 → (cs : List Exported) → straight (final (power_on form v b s) cs).values ≡ true
never_crossed = ever Straight straight_lasts
