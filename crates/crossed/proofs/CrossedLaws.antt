-- What a crossed trip point is known by: its four numbers, and what one write makes of them. Assumes nothing.
use mathlib.Core.Bool.{true, ◌&&◌, and-eq-true_iff}
use mathlib.Core.List.{List}
use mathlib.Core.Path.{◌≡◌, refl, sym, ap, ◌∙◌}
use Prim.Native.Nat.{ℕ, ◌+◌, ◌≤◌}
use native.Mathlib.Omega.{arith}
use lib.Dec.{leb}
use lib.ListN.{length}
use lib.Seq.{take_all}
use borrow.Author.Tests.{eq-eqb, ne_eqb, eqb-true, le-leb}
use Rattle.wire.specs.Splice.{splice}
use Rattle.wire.specs.Little.{from_little, number}
use Rattle.wire.proofs.SpliceLaws.{part_same}
use Rattle.wire.proofs.LittleLaws.{number-apart}
use Rattle.table.specs.Places.{high_enable, low_enable, high_level, low_level}
use Rattle.crossed.specs.Crossed.{crossed, crossed_at}
use Rattle.crossed.specs.Fitting.{own_or_apart, fitting}

-- four numbers that were read
pub numbers_are : (values : List ℕ) (at : ℕ) {a b c d : ℕ} → a ≡ number values (at + high_enable) 1 → b ≡ number values (at + low_enable) 1 → c ≡ number values (at + high_level) 4
    → d ≡ number values (at + low_level) 4 → crossed a b c d ≡ crossed_at values at
unfolding crossed_at
numbers_are values at a b c d = rw (a, b, c, d)

-- so values with the same four numbers are crossed alike
pub same_numbers : (x y : List ℕ) (at : ℕ) → number x (at + high_enable) 1 ≡ number y (at + high_enable) 1 → number x (at + low_enable) 1 ≡ number y (at + low_enable) 1
    → number x (at + high_level) 4 ≡ number y (at + high_level) 4 → number x (at + low_level) 4 ≡ number y (at + low_level) 4 → crossed_at x at ≡ crossed_at y at
same_numbers x y at a b c d = sym (numbers_are x at (sym a) (sym b) (sym c) (sym d)) ∙ numbers_are y at refl refl refl refl

-- ---- with some bytes in the place of what stands there

module _ (values bytes : List ℕ) (at m p : ℕ) (room : p + length bytes ≤ length values) (lies : own_or_apart at m p (length bytes) ≡ true) where
  own-length : at ≡ p → m ≡ length bytes
  unfolding own_or_apart
  own-length e = eqb-true m (length bytes) (rw (eq-eqb at p e) at lies)

  here_room : leb p (length values) ≡ true
  here_room = le-leb p (length values) (omega arith)

  -- there, they are the number
  pub number-own : at ≡ p → number bytes 0 m ≡ number (splice values p bytes) at m
  unfolding number
  number-own e = rw (e, part_same values p bytes here_room m (sym (own-length e))) (ap from_little (take_all m bytes (let l = own-length e in omega arith)))

  pub own_room : at ≡ p → m ≤ length bytes
  own_room e = let l = own-length e in omega arith

  -- elsewhere, it stays
  pub number_else : (at ≡ p → ⊥) → number values at m ≡ number (splice values p bytes) at m
  unfolding own_or_apart
  number_else n = sym (number-apart values p bytes at m here_room (rw (ne_eqb at p n) at lies))

-- the four fields, one by one
module _ (at p n : ℕ) (h : fitting at p n ≡ true) where
  pub high_enable_fits : own_or_apart (at + high_enable) 1 p n ≡ true
  unfolding fitting
  high_enable_fits = ((and-eq-true_iff (own_or_apart (at + high_enable) 1 p n) _).0 h).0

  others : (own_or_apart (at + low_enable) 1 p n ≡ true) × ((own_or_apart (at + high_level) 4 p n && own_or_apart (at + low_level) 4 p n) ≡ true)
  unfolding fitting
  others = (and-eq-true_iff (own_or_apart (at + low_enable) 1 p n) _).0 ((and-eq-true_iff (own_or_apart (at + high_enable) 1 p n) _).0 h).1

  pub low_enable_fits : own_or_apart (at + low_enable) 1 p n ≡ true
  low_enable_fits = others.0

  pub high_level_fits : own_or_apart (at + high_level) 4 p n ≡ true
  high_level_fits = ((and-eq-true_iff (own_or_apart (at + high_level) 4 p n) _).0 others.1).0

  pub low_level_fits : own_or_apart (at + low_level) 4 p n ≡ true
  low_level_fits = ((and-eq-true_iff (own_or_apart (at + high_level) 4 p n) _).0 others.1).1

pub ruleset fields_fit = (high_enable_fits, low_enable_fits, high_level_fits, low_level_fits)
