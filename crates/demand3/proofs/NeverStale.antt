-- THE SUMMARY IS NEVER STALE: from power-up, whatever calls come.
use mathlib.Core.Path.{◌≡◌, sym, ◌∙◌}
use mathlib.Core.List.{List}
use Prim.Native.Nat.{ℕ}
use Rattle.table.specs.Rows.{at_row}
use Rattle.gauge.specs.Masks.{Summed}
use Rattle.gauge.proofs.CommitLaws.{other_held}
use Rattle.gauge.proofs.WrittenLaws.{by_card}
use Rattle.gauge.proofs.GaugeLaws.{status_summed, cleared_summed}
use Rattle.gauge.proofs.SummaryLaws.{card_summed, sample_summed, written_summed, taken_summed, fresh_summed}
use Rattle.board.specs.Calls.{power_up_call}
use Rattle.demand3.specs.Firmware.{Exported, final, power_on}
use Rattle.demand3.proofs.Ever.{Lasts, ever}

summed_lasts : Lasts Summed
summed_lasts =
    record {
      fresh = λ block n. fresh_summed block;
      sample = λ values was p valid faults seconds long h. sample_summed values was p valid faults seconds long;
      status = status_summed;
      cleared = λ values long h. cleared_summed values long;
      taken = λ block values n long h. taken_summed block values long h;
      written = λ k there writable n bytes size values pass long h.
          by_card (at_row k) values bytes Summed (λ c. card_summed values bytes long h) (λ c. written_summed k there values bytes long (size ∙ sym (other_held k there c n)) writable h);
    }

-- THEOREM: after every list of calls of the C firmware the summary is the one that active word and mask give
pub never_stale : (form : ℕ) (v b s : List ℕ) → (power_up_call form v b s).number ≡ 0 → (cs : List Exported) → Summed (final (power_on form v b s) cs).values
never_stale = ever Summed summed_lasts
