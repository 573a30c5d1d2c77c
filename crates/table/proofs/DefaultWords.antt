-- The words that make the defaults out of zeros, as the code has them. tools/table.py writes this file; that they do is
-- computed in the crate entry. Assumes nothing.
use mathlib.Core.List.{List, [], ◌∷◌}
use Prim.Native.Nat.{ℕ}

unfoldable pub word_places : List ℕ
word_places = 0 ∷ 156 ∷ 160 ∷ 164 ∷ 168 ∷ 172 ∷ 176 ∷ 180 ∷ 253 ∷ 265 ∷ 277 ∷ 293 ∷ 303 ∷ 315 ∷ 331 ∷ 346 ∷ 462 ∷ 468 ∷ []

unfoldable pub words : List ℕ
words = 5003 ∷ 1610940673 ∷ 1610940929 ∷ 1610941185 ∷ 5 ∷ 1610617138 ∷ 4085252104 ∷ 4131455282 ∷ 1 ∷ 8392209 ∷ 8392212 ∷ 6291473 ∷ 8392465 ∷ 8392468 ∷ 6291473 ∷ 65552 ∷ 65570 ∷ 336 ∷ []
