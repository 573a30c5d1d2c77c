-- What a mailbox is, by the tests that it passes; and what is known of one that asks for an SDO.
use Prim.Native.Nat.{ℕ, ◌+◌, ◌-◌, ◌/◌, ◌%◌, ◌≤◌, ◌<◌}
use native.Mathlib.Omega.{arith}
use mathlib.Core.Path.{◌≡◌, refl, sym, ap, ◌∙◌}
use mathlib.Core.Bool.{Bool, true, false, cond, ◌&&◌}
use mathlib.Core.List.{List}
use lib.Dec.{eqb, leb}
use lib.ListN.{length, take, drop}
use borrow.Author.Tests.{eqb-true, leb-true, eq-eqb, ne_eqb, le-leb, lt-leb}
use Rattle.std.specs.Prelude.{Result, Ok, Err}
use Rattle.wire.specs.Little.{number}
use Rattle.wire.proofs.SpliceLaws.{part_length}
use Rattle.mailbox.specs.Mail.{mailbox_size, head_of, well_shaped, asks_sdo, mail_of, sdo_in}
use Rattle.mailbox.specs.declared.Head.{Head}
use Rattle.mailbox.specs.declared.Unfit.{Unfit}
use Rattle.mailbox.specs.declared.Unfit.TheVariants.{Misshapen, NotSdo}

-- the definition, over a head that was read
pub mail_by : List ℕ → Head → Result Head Unfit
unfolding asks_sdo
mail_by m h = cond (eqb (length m) mailbox_size && (leb 10 h.len && leb h.len 122)) (cond (asks_sdo h) (Ok h) (Err NotSdo)) (Err Misshapen)

-- what is shown of the head that was read is shown of the mailbox's
pub by_head : (m : List ℕ) (h : Head) (x : Result Head Unfit) → h ≡ head_of m → mail_by m h ≡ x → x ≡ mail_of m
unfolding mail_by mail_of well_shaped
by_head m h x e p = sym p ∙ ap (mail_by m) e

module _ (m : List ℕ) (h : Head) where
  pub other_size : (length m ≡ mailbox_size → ⊥) → mail_by m h ≡ Err Misshapen
  unfolding mail_by
  other_size e = rw (ne_eqb (length m) mailbox_size e)

  module _ (size : length m ≡ mailbox_size) where
    pub short-field : h.len < 10 → mail_by m h ≡ Err Misshapen
    unfolding mail_by
    short-field e = rw (eq-eqb (length m) mailbox_size size, lt-leb 10 h.len e)

    pub long_field : 122 < h.len → mail_by m h ≡ Err Misshapen
    unfolding mail_by
    long_field e = rw (eq-eqb (length m) mailbox_size size, le-leb 10 h.len (omega arith), lt-leb h.len 122 e)

    module _ (low : 10 ≤ h.len) (high : h.len ≤ 122) where
      pub other_type : (h.kind % 16 ≡ 3 → ⊥) → mail_by m h ≡ Err NotSdo
      unfolding mail_by asks_sdo
      other_type e = rw (eq-eqb (length m) mailbox_size size, le-leb 10 h.len low, le-leb h.len 122 high, ne_eqb (h.kind % 16) 3 e)

      module _ (is-coe : h.kind % 16 ≡ 3) where
        pub other_service : (h.service / 4096 ≡ 2 → ⊥) → mail_by m h ≡ Err NotSdo
        unfolding mail_by asks_sdo
        other_service e =
            rw (eq-eqb (length m) mailbox_size size, le-leb 10 h.len low, le-leb h.len 122 high, eq-eqb (h.kind % 16) 3 is-coe, ne_eqb (h.service / 4096) 2 e)

        pub asks : h.service / 4096 ≡ 2 → mail_by m h ≡ Ok h
        unfolding mail_by asks_sdo
        asks e =
            rw (eq-eqb (length m) mailbox_size size, le-leb 10 h.len low, le-leb h.len 122 high, eq-eqb (h.kind % 16) 3 is-coe, eq-eqb (h.service / 4096) 2 e)

-- a mailbox that asks for an SDO, by its head
pub record Asking (m : List ℕ) (h : Head) : Type 0 where
  pub read : h ≡ head_of m
  pub size : length m ≡ mailbox_size
  pub low : 10 ≤ number m 0 2
  pub high : number m 0 2 ≤ 122

pub asking : (m : List ℕ) (h : Head) → mail_of m ≡ Ok h → Asking m h
unfolding mail_of well_shaped
asking m h = go (eqb (length m) mailbox_size) (leb 10 (number m 0 2)) (leb (number m 0 2) 122) (asks_sdo (head_of m)) (eqb-true (length m) mailbox_size) (leb-true 10 (number m 0 2)) (leb-true (number m 0 2) 122)
  where
    go : (a b c d : Bool) → (a ≡ true → length m ≡ mailbox_size) → (b ≡ true → 10 ≤ number m 0 2) → (c ≡ true → number m 0 2 ≤ 122)
        → cond (a && (b && c)) (cond d (Ok (head_of m)) (Err NotSdo)) (Err Misshapen) ≡ Ok h → Asking m h
    go true true true true f g k e = record { read = cc; size = f refl; low = g refl; high = k refl }
    go true true true false f g k e = cc
    go true true false d f g k e = cc
    go true false c d f g k e = cc
    go false b c d f g k e = cc

-- the SDO that is lent on, with a length field that is none too large: n is that number, as the code has it
pub sdo_lent : (m : List ℕ) (len : ℕ) {n : ℕ} → length m ≡ mailbox_size → len ≡ number m 0 2 → (10 ≤ len) × (len ≤ 122) → n ≡ len
    → (take (6 + n - 8) (drop 8 m) ≡ sdo_in m) × (8 ≤ length (take (6 + n - 8) (drop 8 m)))
sdo_lent m len {n} size e b l =
    let d : 6 + n - 8 ≡ number m 0 2 - 2 = omega (arith, l, e, b.0) in
    (ap (λ (k : ℕ). take k (drop 8 m)) d, omega (arith, part_length m 8 (6 + n - 8) (omega (arith, l, b.0, b.1, size)), l, b.0))
