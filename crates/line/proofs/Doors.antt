-- Where a gate leads, and what an open one gives its caller. Assumes nothing.
use mathlib.Core.Path.{◌≡◌, refl, sym}
use mathlib.Core.Bool.{Bool, true, false, cond}
use Prim.Native.Nat.{ℕ}
use Rattle.std.specs.Prelude.{Option, Some, None, Ok, Err}
use Rattle.table.specs.Codes.{code_of}
use Rattle.table.specs.declared.code.AbortCode.{AbortCode}
use Rattle.table.specs.Find.{find_row}
use Rattle.gate.specs.Gates.{to_row, no_way, gate, way_of}
use Rattle.gate.proofs.GateLaws.{gate-opened}
use Rattle.sdo.specs.declared.Key.{Key}
use Rattle.transfer.specs.Records.{key_at}
use Rattle.transfer.proofs.RecordLaws.{found-key}

-- what the code calls a gate leads where the definition says
module _ (barred code : ℕ) (k : Key) where
  pub leads : (row : ℕ) → way_of (Ok row) ≡ gate barred code (find_row k.index k.sub) → gate barred code (find_row k.index k.sub) ≡ to_row row
  unfolding way_of
  leads row way = sym way

  pub stops : (abort : AbortCode) → way_of (Err abort) ≡ gate barred code (find_row k.index k.sub) → gate barred code (find_row k.index k.sub) ≡ no_way (code_of abort)
  unfolding way_of
  stops abort way = sym way

  -- the key is the row's
  pub opened_key : (row : ℕ) → way_of (Ok row) ≡ gate barred code (find_row k.index k.sub) → k ≡ key_at row
  opened_key row way = found-key k row (gate-opened barred code k.index k.sub row (find_row k.index k.sub) refl (leads row way)).found

-- what is given under a test
pub some_when : {A : Type 0} {o : Option A} (b : Bool) (x y : A) → o ≡ cond b (Some x) None → o ≡ Some y → (b ≡ true) × (y ≡ x)
some_when true x y e q = (refl, cc)
some_when false x y e q = cc

pub none_when : {A : Type 0} {o : Option A} (b : Bool) (x : A) → o ≡ cond b (Some x) None → o ≡ None → b ≡ false
none_when true x e q = cc
none_when false x e q = refl
