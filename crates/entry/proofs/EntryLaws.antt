-- Laws of one row's entry and of all defaults: what was stored is read back, bytes beside it stay, lengths stay. They hold for any rows.
use mathlib.Core.Path.{◌≡◌, refl, sym, ap, ◌∙◌}
use mathlib.Core.Bool.{true}
use mathlib.Core.List.{List, [], ◌∷◌}
use mathlib.Core.Logic.{◌⊎◌, inr}
use Prim.Native.Nat.{ℕ, zero, suc, zero-le, suc-le-suc, ◌+◌, ◌<◌, ◌≤◌}
use native.Mathlib.Nat.{le_of_suc-le-suc, not-suc-le-zero, add-zero}
use native.Mathlib.Omega.{arith}
use lib.ListN.{length, take, drop, get_or, replicate}
use lib.Seq.{get_or-take, get_or-drop}
use lib.Dec.{leb}
use borrow.Author.Tests.{le-leb}
use Rattle.wire.specs.Little.{little}
use Rattle.wire.proofs.SpliceLaws.{length-splice, part_length, is_apart, part_same, part_apart}
use Rattle.wire.proofs.LittleLaws.{length-little}
use Rattle.table.specs.Row.{Row, no_row}
use Rattle.table.specs.Rule.{held}
use Rattle.entry.specs.Entry.{entry_of, with_entry, default_of, defaulted, defaults}

-- ---- one row

-- the m bytes from q on are none of the row's
abbrev pub Beside : Row → ℕ → ℕ → Type 0
Beside r q m = (r.place + held r ≤ q) ⊎ (q + m ≤ r.place)

module _ (r : Row) (values bytes : List ℕ) (inside : r.place + held r ≤ length values) (fit : length bytes ≡ held r) where
  room : leb r.place (length values) ≡ true
  room = le-leb r.place (length values) (omega arith)

  pub length-stored : length (with_entry r values bytes) ≡ length values
  unfolding with_entry
  length-stored = length-splice values r.place bytes (omega arith)

  -- what was stored is read back
  pub stored-read : entry_of r (with_entry r values bytes) ≡ bytes
  unfolding with_entry entry_of
  stored-read = part_same values r.place bytes room (held r) fit

  -- storing leaves the bytes beside the row
  pub stored_beside : (q m : ℕ) → Beside r q m → take m (drop q (with_entry r values bytes)) ≡ take m (drop q values)
  unfolding with_entry
  stored_beside q m b =
      part_apart values r.place bytes room q m (rw fit (is_apart r.place (held r) q m b))

  -- and so another row's entry
  pub stored_other : (q : Row) → Beside r q.place (held q) → entry_of q (with_entry r values bytes) ≡ entry_of q values
  unfolding entry_of
  stored_other q b = stored_beside q.place (held q) b

-- a byte of zeros is zero, also behind their end
pub zero_at : (n i : ℕ) → get_or {A = ℕ} (replicate n 0) i 0 ≡ 0
zero_at zero i = refl
zero_at (suc n) zero = refl
zero_at (suc n) (suc i) = zero_at n i

pub entry_length : (r : Row) (values : List ℕ) → r.place + held r ≤ length values → length (entry_of r values) ≡ held r
unfolding entry_of
entry_length r values h = part_length values r.place (held r) h

pub default_length : (r : Row) → length (default_of r) ≡ held r
unfolding default_of
default_length r = length-little (held r) r.def

pub length-defaulted : (r : Row) (values : List ℕ) → r.place + held r ≤ length values → length (defaulted r values) ≡ length values
unfolding defaulted
length-defaulted r values h = length-stored r values (default_of r) h (default_length r)

-- a default of zero is zeros
little_zero : (n : ℕ) → little n 0 ≡ replicate n 0
unfolding little
little_zero zero = refl
little_zero (suc n) = ap (λ (l : List ℕ). 0 ∷ l) (little_zero n)

pub default_zero : (r : Row) → r.def ≡ 0 → default_of r ≡ replicate (held r) 0
unfolding default_of
default_zero r e = ap (little (held r)) e ∙ little_zero (held r)

-- ---- all rows

-- every row's bytes are among the n of the values
abbrev pub Inside : ℕ → List Row → Type 0
Inside n rs = (k : ℕ) → k < length rs → (get_or rs k no_row).place + held (get_or rs k no_row) ≤ n

-- an earlier row's bytes end where a later one's begin, or before
abbrev pub Rising : List Row → Type 0
Rising rs = (j k : ℕ) → j < k → k < length rs → (get_or rs j no_row).place + held (get_or rs j no_row) ≤ (get_or rs k no_row).place

-- the m bytes from q on are no row's
abbrev pub BesideAll : List Row → ℕ → ℕ → Type 0
BesideAll rs q m = (k : ℕ) → k < length rs → Beside (get_or rs k no_row) q m

module _ (n : ℕ) where
  first_inside : (r : Row) (rs : List Row) → Inside n (r ∷ rs) → (values : List ℕ) → length values ≡ n → r.place + held r ≤ length values
  first_inside r rs i values e = rw e (i 0 (suc-le-suc zero-le))

  rest_length : (r : Row) (rs : List Row) → Inside n (r ∷ rs) → (values : List ℕ) → length values ≡ n → length (defaulted r values) ≡ n
  rest_length r rs i values e = length-defaulted r values (first_inside r rs i values e) ∙ e

  pub length-defaults : (rs : List Row) → Inside n rs → (values : List ℕ) → length values ≡ n → length (defaults rs values) ≡ n
  unfolding defaults
  length-defaults [] i values e = e
  length-defaults (r ∷ rs) i values e =
      length-defaults rs (λ k h. i (suc k) (suc-le-suc h)) (defaulted r values) (rest_length r rs i values e)

  -- the defaults leave what is beside them all
  pub defaults_beside : (rs : List Row) → Inside n rs → (values : List ℕ) → length values ≡ n → (q m : ℕ) → BesideAll rs q m → take m (drop q (defaults rs values)) ≡ take m (drop q values)
  unfolding defaults defaulted
  defaults_beside [] i values e q m b = refl
  defaults_beside (r ∷ rs) i values e q m b =
      defaults_beside rs (λ k h. i (suc k) (suc-le-suc h)) (defaulted r values) (rest_length r rs i values e) q m (λ k h. b (suc k) (suc-le-suc h))
      ∙ stored_beside r values (default_of r) (first_inside r rs i values e) (default_length r) q m (b 0 (suc-le-suc zero-le))

  pub defaults_other : (rs : List Row) → Inside n rs → (values : List ℕ) → length values ≡ n → (q : Row) → BesideAll rs q.place (held q) → entry_of q (defaults rs values) ≡ entry_of q values
  unfolding entry_of
  defaults_other rs i values e q b = defaults_beside rs i values e q.place (held q) b

  -- a byte of no row stays
  pub defaults_byte : (rs : List Row) → Inside n rs → (values : List ℕ) → length values ≡ n → (i : ℕ) → BesideAll rs i 1 → get_or (defaults rs values) i 0 ≡ get_or values i 0
  defaults_byte rs i values e k b = first_of (defaults rs values) k ∙ ap (λ (l : List ℕ). get_or l 0 0) (defaults_beside rs i values e k 1 b) ∙ sym (first_of values k)
    where
      first_of : (l : List ℕ) (k : ℕ) → get_or l k 0 ≡ get_or (take 1 (drop k l)) 0 0
      first_of l k = sym (get_or-take 1 (drop k l) 0 0 (suc-le-suc zero-le) ∙ get_or-drop k l 0 0 ∙ ap (λ (m : ℕ). get_or l m 0) (add-zero k))

  -- each row reads as its default
  pub defaults-read : (rs : List Row) → Inside n rs → Rising rs → (values : List ℕ) → length values ≡ n
      → (k : ℕ) → k < length rs → entry_of (get_or rs k no_row) (defaults rs values) ≡ default_of (get_or rs k no_row)
  unfolding defaults defaulted
  defaults-read [] i a values e k h = absurd (not-suc-le-zero h)
  defaults-read (r ∷ rs) i a values e zero h =
      let f = first_inside r rs i values e in
      defaults_other rs (λ k h. i (suc k) (suc-le-suc h)) (defaulted r values) (rest_length r rs i values e) r (λ k h. inr (a 0 (suc k) (suc-le-suc zero-le) (suc-le-suc h)))
      ∙ stored-read r values (default_of r) f (default_length r)
  defaults-read (r ∷ rs) i a values e (suc k) h =
      defaults-read rs (λ k h. i (suc k) (suc-le-suc h)) (λ j k l h. a (suc j) (suc k) (suc-le-suc l) (suc-le-suc h)) (defaulted r values) (rest_length r rs i values e) k (le_of_suc-le-suc h)
