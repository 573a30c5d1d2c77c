-- Writes: their answers are eight bytes in either form, so that what the functions of a line leave is what a long SDO leaves. Assumes nothing.
use mathlib.Core.Path.{◌≡◌, refl, sym, ap, ◌∙◌}
use mathlib.Core.List.{List}
use Prim.Native.Nat.{ℕ}
use lib.ListN.{length}
use Rattle.wire.specs.Little.{little}
use Rattle.order.specs.Talk.{Request, Answer, opened, part_given, write_opened, part_taken, refused, dropped, no_transfer, silent}
use Rattle.order.specs.Serve.{Served, serve, remains}
use Rattle.order.specs.Keep.{is_wiped, speak}
use Rattle.order.proofs.Answers.{NoRead, Has, no_read_has}
use Rattle.sdo.specs.declared.Key.{Key}
use Rattle.sdo.specs.Eight.{answer_of}
use Rattle.sdo.specs.Long.{ask_long, long_form, long_answer}
use Rattle.transfer.specs.Records.{view, base, lay}
use Rattle.state.specs.State.{record_at}
use Rattle.line.specs.Gauge.{plain, store_of}
use Rattle.line.specs.Serving.{told_by, spoken_as}
use Rattle.inbox.specs.Taking.{long_told, spoken_length, asked_told}

-- ---- answers of eight bytes

abbrev pub Brief : Answer Key → Type 0
Brief (opened k n bytes all) = ⊥
Brief (part_given t bytes last) = ⊥
Brief (write_opened k) = Unit {0}
Brief (part_taken t) = Unit {0}
Brief (refused k c) = Unit {0}
Brief (dropped k c) = Unit {0}
Brief no_transfer = Unit {0}
Brief silent = ⊥

brief_alike : (t : Answer Key) → Brief t → long_answer t ≡ answer_of t
unfolding long_answer
brief_alike (opened k n bytes all) h = absurd h
brief_alike (part_given t bytes last) h = absurd h
brief_alike (write_opened k) h = refl
brief_alike (part_taken t) h = refl
brief_alike (refused k c) h = refl
brief_alike (dropped k c) h = refl
brief_alike no_transfer h = refl
brief_alike silent h = absurd h

pub brief_eight : (t : Answer Key) → Brief t → 8 ≡ length (long_answer t)
unfolding long_answer answer_of little
brief_eight (opened k n bytes all) h = absurd h
brief_eight (part_given t bytes last) h = absurd h
brief_eight (write_opened k) h = refl
brief_eight (part_taken t) h = refl
brief_eight (refused k c) h = refl
brief_eight (dropped k c) h = refl
brief_eight no_transfer h = refl
brief_eight silent h = absurd h

has_brief : Has Brief
has_brief = record { of_yes = λ k. tt; of_part = λ u. tt; of_code = λ k c. tt; of_drop = λ k c. tt; of_none = tt }

-- ---- what is left in the lent bytes

module _ (at : ℕ) (v b s a m : List ℕ) (q : Request Key) (asks : ask_long m ≡ q) where
  abbrev z : Served plain
  z = serve plain long_form (store_of v b s) (view (record_at s at)) q

  pub long_asks : told_by at s a (spoken_as long_answer (base (record_at s at) q) z) ≡ long_told at m v b s a
  unfolding speak
  long_asks = sym (ap (λ (r : Request Key). told_by at s a (spoken_as long_answer (base (record_at s at) r) (serve plain long_form (store_of v b s) (view (record_at s at)) r))) asks)

  pub length-asks : length (long_answer z.answer) ≡ spoken_length at m v b s
  unfolding speak
  length-asks = sym (ap (λ (r : Request Key). length (long_answer (serve plain long_form (store_of v b s) (view (record_at s at)) r).answer)) asks)

  module _ (writes : NoRead q) where
    pub write-told : asked_told at q v b s a ≡ long_told at m v b s a
    write-told =
        ap (λ (l : List ℕ). told_by at s a (record { store = z.store; next = lay (base (record_at s at) q) (remains z.after); reset = is_wiped z.after; bytes = l }))
        (sym (brief_alike z.answer (no_read_has plain Brief has_brief long_form (store_of v b s) (view (record_at s at)) q writes)))
        ∙ long_asks

    pub write-length : 8 ≡ spoken_length at m v b s
    write-length = brief_eight z.answer (no_read_has plain Brief has_brief long_form (store_of v b s) (view (record_at s at)) q writes) ∙ length-asks
