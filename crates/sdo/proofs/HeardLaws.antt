-- A message by what it says, and how many bytes it has of a write.
use Prim.Native.Nat.{ℕ, zero, suc, ◌-◌, ◌/◌, ◌%◌, ◌≤◌}
use native.Mathlib.Omega.{arith}
use mathlib.Core.Path.{◌≡◌, ap, subst}
use mathlib.Core.Bool.{Bool, true, false}
use mathlib.Core.List.{List}
use lib.ListN.{get_or}
use Rattle.sdo.specs.declared.Key.{Key}
use Rattle.sdo.specs.declared.Opening.TheVariants.{Value, Own, Announced, Unsaid}
use Rattle.sdo.specs.declared.Message.{Message}
use Rattle.sdo.specs.declared.Message.TheVariants.{SendPart, OpenWrite, OpenRead, NextPart, Unknown}
use Rattle.std.specs.Prelude.{Option, Some, None}
use Rattle.sdo.specs.Eight.{key_of, has, choice, opening_by, heard_of, request_heard, ask_of}

pub ask_is : (m : List ℕ) (h : Option Message) → heard_of m ≡ h → ask_of m ≡ request_heard h m
unfolding ask_of
ask_is m h e = ap (λ (x : Option Message). request_heard x m) e

-- a part has at most seven bytes, a value in an opening at most four
Counted : Option Message → Type 0
Counted (Some (SendPart t n last)) = n ≤ 7
Counted (Some (OpenWrite k (Value n))) = n ≤ 4
Counted (Some (OpenWrite k Own)) = Unit {0}
Counted (Some (OpenWrite k (Announced n))) = Unit {0}
Counted (Some (OpenWrite k Unsaid)) = Unit {0}
Counted (Some (OpenRead k)) = Unit {0}
Counted (Some (NextPart t)) = Unit {0}
Counted None = Unit {0}
Counted (Some Unknown) = Unit {0}

counted_opening : (d c : Bool) (k : Key) (m : List ℕ) → Counted (Some (OpenWrite k (opening_by d c m)))
unfolding Counted opening_by
counted_opening true true k m = omega arith
counted_opening true false k m = tt
counted_opening false true k m = tt
counted_opening false false k m = tt

counted-choice : (n : ℕ) (a₀ a₁ a₂ a₃ a₄ above : Option Message) → Counted a₀ → Counted a₁ → Counted a₂ → Counted a₃ → Counted a₄ → Counted above
    → Counted (choice n a₀ a₁ a₂ a₃ a₄ above)
unfolding choice
counted-choice zero a₀ a₁ a₂ a₃ a₄ above h₀ h₁ h₂ h₃ h₄ h = h₀
counted-choice (suc zero) a₀ a₁ a₂ a₃ a₄ above h₀ h₁ h₂ h₃ h₄ h = h₁
counted-choice (suc (suc zero)) a₀ a₁ a₂ a₃ a₄ above h₀ h₁ h₂ h₃ h₄ h = h₂
counted-choice (suc (suc (suc zero))) a₀ a₁ a₂ a₃ a₄ above h₀ h₁ h₂ h₃ h₄ h = h₃
counted-choice (suc (suc (suc (suc zero)))) a₀ a₁ a₂ a₃ a₄ above h₀ h₁ h₂ h₃ h₄ h = h₄
counted-choice (suc (suc (suc (suc (suc n))))) a₀ a₁ a₂ a₃ a₄ above h₀ h₁ h₂ h₃ h₄ h = h

seven_less : (n : ℕ) → 7 - n ≤ 7
seven_less n = omega arith

counted-heard : (m : List ℕ) → Counted (heard_of m)
unfolding heard_of Counted
counted-heard m =
    counted-choice (get_or m 0 0 / 32) _ _ _ _ _ _ (seven_less (get_or m 0 0 / 2 % 8)) (counted_opening (has 2 (get_or m 0 0)) (has 1 (get_or m 0 0)) (key_of m) m) tt tt tt tt

pub part_count : (m : List ℕ) (t : Bool) (n : ℕ) (last : Bool) → heard_of m ≡ Some (SendPart t n last) → n ≤ 7
unfolding Counted
part_count m t n last e = subst Counted e (counted-heard m)

pub value-count : (m : List ℕ) (k : Key) (n : ℕ) → heard_of m ≡ Some (OpenWrite k (Value n)) → n ≤ 4
unfolding Counted
value-count m k n e = subst Counted e (counted-heard m)
