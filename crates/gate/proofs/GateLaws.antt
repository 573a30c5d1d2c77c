-- The gate by cases, as the code takes it; what a key that leads to a row says of it. Assumes nothing.
use mathlib.Core.Path.{◌≡◌, refl, sym, ap, ◌∙◌}
use mathlib.Core.Bool.{Bool, true, false, cond}
use Prim.Native.Nat.{ℕ}
use lib.Dec.{eqb}
use borrow.Author.Tests.{eqb-false}
use denote.Enum.Bare.{sameb}
use Rattle.std.specs.Prelude.{Result, Ok, Err}
use Rattle.table.specs.Rows.{at_row}
use Rattle.table.specs.Find.{Found, At, NoIndex, NoSub, find_row}
use Rattle.table.specs.Codes.{code_of}
use Rattle.table.specs.Access.{access_number}
use Rattle.table.specs.declared.access.Access.{Access}
use Rattle.table.specs.contracts.access.Access.{the_type}
use Rattle.table.specs.declared.code.AbortCode.{AbortCode}
use Rattle.table.proofs.Accesses.{same_access}
use Rattle.find.specs.Search.{found_row}
use Rattle.find.proofs.Way.{open_row}
use Rattle.gate.specs.Gates.{to_row, no_way, gate, way_of}

module _ (barred : Access) (abort : AbortCode) (index sub : ℕ) {f : Result ℕ AbortCode} (found : f ≡ found_row (find_row index sub)) where
  -- what the code promises of what it gives
  abbrev Gated : Result ℕ AbortCode → Type 0
  Gated g = way_of g ≡ gate (access_number barred) (code_of abort) (find_row index sub)

  module _ (r : ℕ) (a : Access) (e : f ≡ Ok r) (q : access_number a ≡ (at_row r).access) where
    told : find_row index sub ≡ At r
    told = open_row (find_row index sub) (sym e ∙ found)

    same : (b : Bool) → sameb the_type a barred ≡ b → eqb (at_row r).access (access_number barred) ≡ b
    same b h = ap (λ (n : ℕ). eqb n (access_number barred)) (sym q) ∙ sym (same_access a barred) ∙ h

    pub barred_row : sameb the_type a barred ≡ true → Gated (Err abort)
    unfolding gate way_of
    barred_row h = rw (told, same true h)

    pub allowed-row : sameb the_type a barred ≡ false → Gated (Ok r)
    unfolding gate way_of
    allowed-row h = rw (told, same false h)

  pub stays_shut : (absent : AbortCode) → f ≡ Err absent → Gated (Err absent)
  unfolding gate found_row way_of
  stays_shut absent e = go (find_row index sub) (sym e ∙ found)
    where
      go : (d : Found) → Err absent ≡ found_row d → way_of (Err absent) ≡ gate (access_number barred) (code_of abort) d
      go (At r) q = cc
      go NoIndex q = ap way_of q
      go NoSub q = ap way_of q

-- ---- what an open gate says

-- the row was found, and its access is not the barred one
pub record Opened (barred index sub row : ℕ) : Type 0 where
  pub found : find_row index sub ≡ At row
  pub allowed : (at_row row).access ≡ barred → ⊥

pub gate-opened : (barred code index sub row : ℕ) (f : Found) → find_row index sub ≡ f → gate barred code f ≡ to_row row → Opened barred index sub row
unfolding gate
gate-opened barred code index sub row (At r) e g = go (eqb (at_row r).access barred) refl g
  where
    go : (b : Bool) → eqb (at_row r).access barred ≡ b → cond b (no_way code) (to_row r) ≡ to_row row → Opened barred index sub row
    go true q h = cc
    go false q h =
        let z : r ≡ row = cc in
        record { found = e ∙ ap At z; allowed = λ a. eqb-false (at_row r).access barred q (ap (λ (n : ℕ). (at_row n).access) z ∙ a) }
gate-opened barred code index sub row NoIndex e g = cc
gate-opened barred code index sub row NoSub e g = cc
