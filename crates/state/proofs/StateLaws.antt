-- The state bytes as the code reads and writes them: each law takes what the calls ensure. Assumes nothing.
use mathlib.Core.Path.{◌≡◌, ap, ◌∙◌}
use mathlib.Core.Bool.{Bool}
use mathlib.Core.List.{List, ◌++◌, append_assoc}
use Prim.Native.Nat.{ℕ, ◌+◌, ◌-◌, ◌≤◌}
use native.Mathlib.Omega.{arith}
use lib.ListN.{length, take, drop, replicate, length-append}
use borrow.Rule.Slice.PartMut.{put_mid}
use Rattle.wire.specs.Splice.{splice}
use Rattle.wire.specs.Little.{little, number}
use Rattle.wire.specs.Flags.{is_set, bit}
use Rattle.wire.proofs.LittleLaws.{length-little}
use Rattle.wire.proofs.SpliceLaws.{length-splice, splice-whole, splice_behind, part_length, zeros-lent}
use Rattle.wire.proofs.Overlaps.{splice-inside}
use Rattle.transfer.specs.declared.Direction.{Direction}
use Rattle.transfer.specs.declared.Transfer.{Transfer}
use Rattle.transfer.specs.Records.{zero_record}
use Rattle.transfer.specs.Turns.{grown}
use Rattle.state.specs.State.{record_size, direction_of, direction_byte, record_at, record_tail, record_bytes}
use Rattle.wire.proofs.InARow.{four_in_a_row}

pub record_read : (s : List ℕ) (at : ℕ) {held : List ℕ} {row len place : ℕ} {d : Direction} {toggle : Bool} → at + record_size ≤ length s
    → held ≡ splice (replicate 64 0) 0 (take 64 (drop at s)) → row ≡ number s (at + 64) 2 → d ≡ direction_of (number s (at + 66) 1)
    → len ≡ number s (at + 67) 1 → place ≡ number s (at + 68) 1 → toggle ≡ is_set s (at + 69)
    → ◌≡◌ {A = Transfer} (record { held = held; row = row; direction = d; len = len; place = place; toggle = toggle }) (record_at s at)
unfolding record_at
record_read s at h eh er ed el ep et =
    rw (eh, er, ed, el, ep, et, splice-whole (replicate 64 0) (take 64 (drop at s)) (part_length s at 64 (omega arith)))

module _ (l : List ℕ) (at : ℕ) (t : Transfer) (room : at + record_size ≤ length l) where
  pub tail_put : {l₁ l₂ l₃ l₄ l₅ : List ℕ} {d b : ℕ} → l₁ ≡ splice l (at + 64) (little 2 t.row) → d ≡ direction_byte t.direction
      → l₂ ≡ splice l₁ (at + 66) (little 1 d) → l₃ ≡ splice l₂ (at + 67) (little 1 t.len) → l₄ ≡ splice l₃ (at + 68) (little 1 t.place)
      → b ≡ bit t.toggle → l₅ ≡ splice l₄ (at + 69) (little 1 b) → l₅ ≡ splice l (at + 64) (record_tail t)
  unfolding record_tail
  tail_put e₁ ed e₂ e₃ e₄ eb e₅ =
      let four : List ℕ = little 2 t.row ++ (little 1 (direction_byte t.direction) ++ (little 1 t.len ++ little 1 t.place)) in
      let long : length four ≡ 5 = simp (length-append, length-little) in
      let last : length (little 1 (bit t.toggle)) ≡ 1 = length-little 1 (bit t.toggle) in
      rw (e₅, e₄, e₃, e₂, e₁, ed, eb)
      (rw (
        four_in_a_row l (at + 64) (at + 66) (at + 67) (at + 68) 2 t.row (direction_byte t.direction) t.len t.place (omega arith) (omega arith) (omega arith) (omega arith),
        splice_behind l (at + 64) four (little 1 (bit t.toggle)) (at + 69) (omega arith) (omega arith),
      )
      (simp append_assoc))

  pub record_put : {l₁ l₂ : List ℕ} → length t.held ≡ 64 → l₁ ≡ splice l at t.held → l₂ ≡ splice l₁ (at + 64) (record_tail t)
      → l₂ ≡ splice l at (record_bytes t)
  unfolding record_bytes record_tail
  record_put n e₁ e₂ =
      let tail : List ℕ = record_tail t in
      let long : length tail ≡ 6 = simp (length-append, length-little) in
      rw (e₂, e₁) (splice_behind l at t.held tail (at + 64) (omega arith) (omega arith))

-- a part of a write: its bytes, and what stands behind the held ones
pub part_put : (l : List ℕ) (at : ℕ) (t : Transfer) (bytes : List ℕ) → at + record_size ≤ length l → t ≡ record_at l at → t.place + length bytes ≤ 64
    → {next : Transfer} {l₁ l₂ : List ℕ} → l₁ ≡ splice l (at + t.place) bytes → next ≡ grown t bytes → l₂ ≡ splice l₁ (at + 64) (record_tail next) → l₂ ≡ splice l at (record_bytes (grown t bytes))
unfolding record_at record_bytes record_tail
part_put l at t bytes room is fits e₁ en e₂ =
    let held : t.held ≡ take 64 (drop at l) = ap (λ (x : Transfer). x.held) is in
    let lh : length (take 64 (drop at l)) ≡ 64 = part_length l at 64 (omega arith) in
    let h : List ℕ = splice t.held t.place bytes in
    let ln : length h ≡ 64 = rw held (length-splice (take 64 (drop at l)) t.place bytes (omega arith) ∙ lh) in
    let tail : List ℕ = record_tail (grown t bytes) in
    let long : length tail ≡ 6 = simp (length-append, length-little) in
    let s : splice l at h ≡ splice l (at + t.place) bytes = rw held (splice-inside l at 64 t.place bytes (omega arith) fits) in
    e₂ ∙ rw (e₁, en) (rw (← s) (splice_behind l at h tail (at + 64) (omega arith) (omega arith)))

-- an ended transfer's record
pub record_cleared : (l : List ℕ) (at : ℕ) {zeros : List ℕ} → at + record_size ≤ length l → zeros ≡ replicate (length (take (at + 70 - at) (drop at l))) 0
    → put_mid at (at + 70 - at) l zeros ≡ splice l at (record_bytes zero_record)
unfolding record_bytes record_tail direction_byte little
record_cleared l at room e =
    let n : at + 70 - at ≡ 70 = omega arith in
    zeros-lent l at (at + 70) (omega arith) room e ∙ ap (λ (k : ℕ). splice l at (replicate k 0)) n
