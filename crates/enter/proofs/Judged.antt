-- Levels by the ranks of 0 and 1500, and what `plainly_within` says: patterns up to that of 1500 are within. Assumes nothing.
use mathlib.Core.Bool.{true, ◌&&◌, and-eq-true_iff}
use mathlib.Core.Path.{◌≡◌, sym}
use mathlib.Core.List.{List}
use Prim.Native.Nat.{ℕ, ◌<◌, ◌≤◌}
use native.Mathlib.Omega.{arith}
use Rattle.std.specs.Prelude.{Err}
use lib.Dec.{leb}
use lib.ListN.{get_or}
use borrow.Author.Tests.{leb-true, lt-ltb}
use Rattle.bits.specs.Bits.{bits, field}
use Rattle.table.specs.Row.{REAL}
use Rattle.table.specs.Rule.{pick, rank, real_rank}
use Rattle.limits.specs.Ranks.{rank_verdict}
use Rattle.limits.specs.Limits.{Verdict, within}
use Rattle.limits.specs.declared.Outside.{Outside}
use Rattle.limits.proofs.LimitsLaws.{Patterns, by_ranks, rank-within}
use Rattle.card.specs.Card.{point_1, point_2, fields_of, level_verdict, layout_verdict, first_bad, point_verdict, card_verdict}
use Rattle.card.specs.Asked.{plainly_within}

level_patterns : (v : ℕ) → v < 4294967296 → Patterns 0 0x44BB8000 v
level_patterns v h =
    record { lowest = record { short = omega arith; number = omega arith }; highest = record { short = omega arith; number = omega arith }; short = h }

pub level_ranked : (v : ℕ) → v < 4294967296 → rank_verdict REAL 0x80000000 0xC4BB8000 v ≡ level_verdict v
unfolding level_verdict rank real_rank pick
level_ranked v h = by_ranks REAL 0 0x44BB8000 v (λ e. level_patterns v h)

level-within : (v : ℕ) → v ≤ 0x44BB8000 → level_verdict v ≡ within
unfolding level_verdict rank real_rank pick
level-within v h =
    rank-within REAL 0 0x44BB8000 v (omega arith) (λ e. level_patterns v (omega arith)) (λ e. omega arith) (rw (lt-ltb v 2147483648 (omega arith)) (omega arith)) (rw (lt-ltb v 2147483648 (omega arith)) (omega arith))

within_all : (a b c d : ℕ) → leb a 0x44BB8000 && (leb b 0x44BB8000 && (leb c 0x44BB8000 && leb d 0x44BB8000)) ≡ true
    → first_bad (level_verdict a) (first_bad (level_verdict b) (first_bad (level_verdict c) (level_verdict d))) ≡ within
unfolding first_bad
within_all a b c d h =
    let k = (and-eq-true_iff (leb a 0x44BB8000) _).0 h in
    let l = (and-eq-true_iff (leb b 0x44BB8000) _).0 k.1 in
    let m = (and-eq-true_iff (leb c 0x44BB8000) _).0 l.1 in
    rw (level-within a (leb-true a _ k.0), level-within b (leb-true b _ l.0), level-within c (leb-true c _ m.0), level-within d (leb-true d _ m.1))

plain_point : (fields : List ℕ) → plainly_within fields ≡ true → point_verdict fields ≡ within
unfolding plainly_within point_verdict
plain_point fields h = within_all (get_or fields 2 0) (get_or fields 3 0) (get_or fields 4 0) (get_or fields 5 0) h

-- A card by its head's four bits and its fields: the first that is not within is told.
module _ (card : List ℕ) (n : ℕ) (head : n ≡ field (bits card) 0 4) where
  pub by_layout : {o : Outside} → Err o ≡ layout_verdict n → Err o ≡ card_verdict card
  unfolding card_verdict first_bad
  by_layout e = rw (← head, ← e)

  module _ (right : within ≡ layout_verdict n) (one two : List ℕ) (first : one ≡ fields_of card point_1) (second : two ≡ fields_of card point_2) where
    pub by_first : {o : Outside} → Err o ≡ point_verdict one → Err o ≡ card_verdict card
    unfolding card_verdict first_bad
    by_first e = rw (← head, ← right, ← first, ← e)

    pub by_second : {v : Verdict} → within ≡ point_verdict one → v ≡ point_verdict two → v ≡ card_verdict card
    unfolding card_verdict first_bad
    by_second w e = rw (← head, ← right, ← first, ← second, ← w) e

    -- both points plainly within
    pub plain_card : plainly_within one && plainly_within two ≡ true → within ≡ card_verdict card
    plain_card h =
        let both = (and-eq-true_iff (plainly_within one) _).0 h in
        by_second (sym (plain_point one both.0)) (sym (plain_point two both.1))
