-- When a record counts, in plain numbers (R6.5): its row is in the table, the access has the direction's bit (1 read, 2 write), the length is the row's
-- and the position is not behind it. Assumes nothing.
use Prim.Native.Nat.{ℕ, zero, suc, ◌%◌, ◌≤◌, ◌<◌}
use native.Mathlib.Omega.{arith}
use mathlib.Core.Path.{◌≡◌, refl, sym, ap₂, ◌∙◌}
use mathlib.Core.Bool.{Bool, true, false, ◌&&◌}
use lib.Dec.{eqb, leb, ltb}
use borrow.Author.Tests.{eqb-true, eqb-false, leb-true, le-leb, ltb-true}
use Rattle.table.specs.Row.{smallest, largest}
use Rattle.table.specs.Rows.{row_count, at_row}
use Rattle.table.proofs.Table.{row_rule}
use Rattle.transfer.specs.declared.Direction.{Direction}
use Rattle.transfer.specs.declared.Direction.TheVariants.{Neither, Reads, Writes}
use Rattle.transfer.specs.declared.Transfer.{Transfer}
use Rattle.transfer.specs.Records.{allows, counts}

unfoldable pub has-bit : Direction → ℕ → Bool
has-bit Neither access = false
has-bit Reads access = eqb (access % 2) 1
has-bit Writes access = leb 2 access

bit-allows : (d : Direction) (a : ℕ) → 1 ≤ a → a ≤ 3 → allows d a ≡ has-bit d a
unfolding allows has-bit
bit-allows d zero h k = absurd (omega arith)
bit-allows Neither (suc a) h k = refl
bit-allows Reads (suc zero) h k = refl
bit-allows Reads (suc (suc zero)) h k = refl
bit-allows Reads (suc (suc (suc zero))) h k = refl
bit-allows Writes (suc zero) h k = refl
bit-allows Writes (suc (suc zero)) h k = refl
bit-allows Writes (suc (suc (suc zero))) h k = refl
bit-allows Reads (suc (suc (suc (suc a)))) h k = absurd (omega arith)
bit-allows Writes (suc (suc (suc (suc a)))) h k = absurd (omega arith)

between_one : (m n : ℕ) → (leb m n && leb n m) ≡ eqb n m
between_one m n = go (eqb n m) (leb m n) (leb n m) (eqb-true n m) (eqb-false n m) (leb-true m n) (leb-true n m) refl refl refl
  where
    go : (e x y : Bool) → (e ≡ true → n ≡ m) → (e ≡ false → n ≡ m → ⊥) → (x ≡ true → m ≤ n) → (y ≡ true → n ≤ m) → eqb n m ≡ e → leb m n ≡ x → leb n m ≡ y → (x && y) ≡ e
    go true x y p q r s i j k =
        let same : n ≡ m = p refl in
        ap₂ (λ (u v : Bool). u && v) (sym j ∙ le-leb m n (omega (arith, same))) (sym k ∙ le-leb n m (omega (arith, same)))
    go false true true p q r s i j k = absurd (q refl (let a = r refl in let b = s refl in omega arith))
    go false true false p q r s i j k = refl
    go false false y p q r s i j k = refl

-- THEOREM
pub counts_plainly : (t : Transfer) → counts t ≡ (ltb t.row row_count && (has-bit t.direction (at_row t.row).access && (eqb t.len (at_row t.row).len && leb t.place t.len)))
unfolding counts smallest largest
counts_plainly t = go (ltb t.row row_count) (ltb-true t.row row_count)
  where
    rest : Bool → Bool → Bool
    rest a l = a && (l && leb t.place t.len)

    go : (b : Bool) → (b ≡ true → t.row < row_count)
        → (b && rest (allows t.direction (at_row t.row).access) (leb (at_row t.row).len t.len && leb t.len (at_row t.row).len))
        ≡ (b && rest (has-bit t.direction (at_row t.row).access) (eqb t.len (at_row t.row).len))
    go false h = refl
    go true h =
        let r = row_rule t.row (h refl) in
        ap₂ rest (bit-allows t.direction (at_row t.row).access r.access-some r.access-most) (between_one (at_row t.row).len t.len)
