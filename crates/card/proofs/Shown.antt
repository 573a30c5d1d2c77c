-- What the card of the values shows: its layout is 1, its fields are the entries' own, its verdict is theirs. Assumes nothing.
use mathlib.Core.Path.{◌≡◌, refl, sym, ap, ◌∙◌}
use mathlib.Core.List.{List, [], ◌∷◌, ◌++◌, append_assoc, append-nil}
use Prim.Native.Nat.{ℕ}
use native.Mathlib.Omega.{arith}
use lib.Dec.{lit<}
use lib.ListN.{length, drop, length-append}
use lib.Seq.{drop_at, take_all}
use Rattle.wire.proofs.LittleLaws.{Bytes}
use Rattle.bits.specs.Bits.{msb, bits, field, Small}
use Rattle.bits.specs.Fields.{encode, decode}
use Rattle.bits.proofs.Numbers.{length-msb, num-msb, small_append, small_msb, bits-packed}
use Rattle.bits.proofs.Parts.{field_mid}
use Rattle.bits.proofs.Packing.{decode-encode}
use Rattle.table.specs.Places.{settings_1, settings_2}
use Rattle.card.specs.Card.{layout, point_widths, point_1, point_2, point_fields, point_bits, card_bits, card_of, fields_of, layout_verdict, first_bad, point_verdict, card_verdict}
use Rattle.card.proofs.Fields.{packable, length_point}
use Rattle.card.proofs.Made.{length-card_bits}

small_encode : (ws vs : List ℕ) → Small (encode ws vs)
unfolding encode Small
small_encode [] vs = tt
small_encode (w ∷ ws) [] = tt
small_encode (w ∷ ws) (v ∷ vs) = small_append (msb w v) (encode ws vs) (small_msb w v) (small_encode ws vs)

module _ (values : List ℕ) (bytes : Bytes values) where
  -- the three parts of the card
  abbrev first_point : List ℕ
  first_point = point_bits values settings_1

  abbrev second_point : List ℕ
  second_point = point_bits values settings_2

  small_card : Small (card_bits values)
  unfolding card_bits point_bits
  small_card =
      small_append (msb 4 layout) (first_point ++ second_point) (small_msb 4 layout)
      (small_append first_point second_point (small_encode point_widths (point_fields values settings_1)) (small_encode point_widths (point_fields values settings_2)))

  -- the card's bytes say the card's bits
  pub bits_of_card : bits (card_of values) ≡ card_bits values
  unfolding card_of
  bits_of_card =
      let n : length (card_bits values) ≡ 264 = length-card_bits values bytes in
      bits-packed 33 (card_bits values) small_card (omega arith) ∙ take_all 264 (card_bits values) (omega arith)

  pub layout-shown : field (bits (card_of values)) 0 4 ≡ layout
  unfolding card_bits
  layout-shown =
      ap (λ (l : List ℕ). field l 0 4) bits_of_card
      ∙ field_mid [] (msb 4 layout) (first_point ++ second_point) 0 4 refl (length-msb 4 layout)
      ∙ num-msb 4 layout (lit< tt)

  pub point_1-shown : fields_of (card_of values) point_1 ≡ point_fields values settings_1
  unfolding fields_of card_bits point_bits
  point_1-shown =
      ap (λ (l : List ℕ). decode point_widths (drop 4 l)) bits_of_card
      ∙ ap (decode point_widths) (drop_at (msb 4 layout) (first_point ++ second_point) 4 (length-msb 4 layout))
      ∙ decode-encode point_widths (point_fields values settings_1) second_point (packable values settings_1 bytes)

  pub point_2-shown : fields_of (card_of values) point_2 ≡ point_fields values settings_2
  unfolding fields_of card_bits point_bits
  point_2-shown =
      let m : List ℕ = msb 4 layout in
      let n : length (m ++ first_point) ≡ 134 = omega (arith, length-append m first_point, length-msb 4 layout, length_point values settings_1 bytes) in
      ap (λ (l : List ℕ). decode point_widths (drop 134 l)) (bits_of_card ∙ sym (append_assoc m first_point second_point))
      ∙ ap (decode point_widths) (drop_at (m ++ first_point) second_point 134 n ∙ sym (append-nil second_point))
      ∙ decode-encode point_widths (point_fields values settings_2) [] (packable values settings_2 bytes)

  -- a card is within where the entries are
  pub card_judged : card_verdict (card_of values) ≡ first_bad (point_verdict (point_fields values settings_1)) (point_verdict (point_fields values settings_2))
  unfolding card_verdict layout_verdict first_bad
  card_judged = rw (layout-shown, point_1-shown, point_2-shown)
