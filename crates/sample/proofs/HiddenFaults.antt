-- A mask bit by bit: one bit of the active word that its mask does not hide shows in the summary, and where all are hidden nothing does.
-- Assumes nothing.
use mathlib.Core.Bool.{Bool, true, false}
use mathlib.Core.Path.{◌≡◌, refl, sym, ap, ap₂, ◌∙◌}
use Prim.Native.Nat.{ℕ, suc, ◌+◌, ◌*◌, ◌/◌, ◌%◌, ◌^◌, ◌≤◌}
use native.Mathlib.Nat.{min-eq_left, div-add-mod', div-div-eq-div-mul, pow-succ'}
use native.Mathlib.Omega.{arith}
use lib.Arith.{bin_ind}
use lib.Bits.{bit_and, and_step, and_shr, and_mod}
use borrow.Author.Tests.{eqb-true, eqb-false, eq-eqb, ne_eqb}
use Rattle.sample.specs.Faults.{all_hidden, summary_of}
use Rattle.sample.proofs.SampleLaws.{set_in}

-- bit n of what two numbers have in common
and_bit : (a b n : ℕ) → bit_and a b / 2 ^ n % 2 ≡ bit_and (a / 2 ^ n % 2) (b / 2 ^ n % 2)
and_bit a b n = ap (λ (x : ℕ). x % 2) (and_shr a b n) ∙ and_mod (a / 2 ^ n) (b / 2 ^ n) 1

module _ (active mask : ℕ) where
  pub bit_shows : (n : ℕ) → set_in active n ≡ true → set_in mask n ≡ false → summary_of active mask ≡ 4
  unfolding summary_of all_hidden
  bit_shows n on free =
      let a : active / 2 ^ n % 2 ≡ 1 = eqb-true _ 1 on in
      let m : mask / 2 ^ n % 2 ≡ 0 = let o : mask / 2 ^ n % 2 ≡ 1 → ⊥ = eqb-false _ 1 free in omega arith in
      rw (ne_eqb (bit_and active mask) active (λ e. let z : ◌≡◌ {A = ℕ} 1 0 = sym a ∙ ap (λ (x : ℕ). x / 2 ^ n % 2) (sym e) ∙ and_bit active mask n ∙ ap₂ bit_and a m in omega arith))

-- bit by bit no greater, so all in common
common : (a b : ℕ) → ((n : ℕ) → a / 2 ^ n % 2 ≤ b / 2 ^ n % 2) → bit_and a b ≡ a
common =
    bin_ind (λ (a : ℕ). (b : ℕ) → ((n : ℕ) → a / 2 ^ n % 2 ≤ b / 2 ^ n % 2) → bit_and a b ≡ a) (λ b h. refl)
    (λ a ih b h.
    and_step a b
    ∙ ap₂ (λ (x y : ℕ). x * 2 + y) (ih (b / 2) (λ n. rw (half a n, half b n) (h (suc n)))) (min-eq_left (let k : a / 2 ^ 0 % 2 ≤ b / 2 ^ 0 % 2 = h 0 in omega arith))
    ∙ div-add-mod' a 2)
  where
    half : (x n : ℕ) → x / 2 / 2 ^ n ≡ x / 2 ^ suc n
    half x n = div-div-eq-div-mul x 2 (2 ^ n) ∙ ap (λ (y : ℕ). x / y) (sym (pow-succ' 2 n))

pub all_hide : (active mask : ℕ) → ((n : ℕ) → set_in active n ≡ true → set_in mask n ≡ true) → summary_of active mask ≡ 0
unfolding summary_of all_hidden
all_hide active mask h = rw (eq-eqb (bit_and active mask) active (common active mask (λ n. go n (set_in active n) refl)))
  where
    go : (n : ℕ) (b : Bool) → set_in active n ≡ b → active / 2 ^ n % 2 ≤ mask / 2 ^ n % 2
    go n true e = omega (arith, eqb-true (active / 2 ^ n % 2) 1 e, eqb-true (mask / 2 ^ n % 2) 1 (h n e))
    go n false e = omega (arith, eqb-false (active / 2 ^ n % 2) 1 e)
