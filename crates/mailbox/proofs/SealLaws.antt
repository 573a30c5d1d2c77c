-- What the code writes round an SDO is the mailbox that holds it.
use Prim.Native.Nat.{ℕ, ◌+◌, ◌-◌, ◌*◌, ◌%◌, ◌≤◌, ◌<◌}
use native.Mathlib.Omega.{arith}
use mathlib.Core.Path.{◌≡◌, refl, sym, ap, ap₂, ◌∙◌}
use mathlib.Core.Logic.{inl}
use mathlib.Core.List.{List, [], ◌∷◌, ◌++◌, append_assoc}
use lib.ListN.{length, take, drop, get_or, replicate, length-append, length-replicate}
use lib.Seq.{get_or-take, get_or-drop}
use borrow.Author.Tests.{le-leb}
use borrow.Rule.Slice.PartMut.{put_mid}
use Rattle.wire.specs.Splice.{splice}
use Rattle.wire.specs.Little.{little}
use Rattle.wire.proofs.SpliceLaws.{length-splice, part_length, splice-own, splice_behind, part_apart, is_apart, zeros-lent}
use Rattle.wire.proofs.LittleLaws.{length-little, little-append}
use Rattle.mailbox.specs.declared.Head.{Head}
use Rattle.mailbox.specs.Mail.{counter_in, mailed}
use Rattle.mailbox.specs.Sealing.{service_by, sealed}

-- ---- the headers, a word each

-- type with counter, and service
byte_above : (b : ℕ) → b < 256 → little 2 (256 * b) ≡ 0 ∷ b ∷ []
unfolding little
byte_above b h =
    let e : 256 * b ≡ 0 + 256 * b = omega arith in
    let small : b % 256 ≡ b = omega arith in
    ap (little 2) e ∙ sym (little-append 1 1 0 b (omega arith)) ∙ rw small

second_word : (counter service : ℕ) → counter < 8 → little 4 (256 * (3 + 16 * counter) + 65536 * (4096 * service)) ≡ 0 ∷ (3 + 16 * counter) ∷ little 2 (4096 * service)
second_word counter service h =
    sym (little-append 2 2 (256 * (3 + 16 * counter)) (4096 * service) (omega arith))
    ∙ ap (λ (x : List ℕ). x ++ little 2 (4096 * service)) (byte_above (3 + 16 * counter) (omega arith))

in_a_row : (a b c d : ℕ) (rest : List ℕ) → ((little 2 a ++ little 2 b) ++ (0 ∷ c ∷ little 2 d)) ++ rest ≡ little 2 a ++ (little 2 b ++ (0 ∷ c ∷ (little 2 d ++ rest)))
unfolding little
in_a_row a b c d rest = refl

mailed_by : (address counter service : ℕ) (sdo : List ℕ) → 1 ≤ length sdo
    → little 2 (2 + length sdo) ++ (little 2 address ++ (0 ∷ (3 + 16 * counter) ∷ (little 2 (4096 * service) ++ (sdo ++ replicate (120 - length sdo) 0)))) ≡ mailed address counter service sdo
unfolding mailed
mailed_by address counter service [] h = absurd (omega arith)
mailed_by address counter service (b ∷ sdo) h = refl

-- an SDO that has a first byte has a mailbox: the headers in two words, itself, zeros
mailed_is : (len address counter service : ℕ) (sdo : List ℕ) → length sdo ≡ len → 1 ≤ len → len ≤ 120 → counter < 8
    → (little 4 (2 + len + 65536 * address) ++ little 4 (256 * (3 + 16 * counter) + 65536 * (4096 * service))) ++ (sdo ++ replicate (120 - len) 0) ≡ mailed address counter service sdo
mailed_is len address counter service sdo n h k c =
    ap (λ (x : List ℕ). x ++ (sdo ++ replicate (120 - len) 0)) (ap₂ ◌++◌ (sym (little-append 2 2 (2 + len) address (omega arith))) (second_word counter service c))
    ∙ in_a_row (2 + len) address (3 + 16 * counter) (4096 * service) (sdo ++ replicate (120 - len) 0)
    ∙ rw n at (mailed_by address counter service sdo (omega arith))

-- ---- eight bytes before an SDO that stands in its place, and zeros behind it

framed : (l H : List ℕ) (len : ℕ) (zs : List ℕ) → length H ≡ 8 → 8 + len + length zs ≤ length l
    → splice (splice l 0 H) (8 + len) zs ≡ splice l 0 (H ++ (take len (drop 8 l) ++ zs))
framed l H len zs e h =
    let sdo : List ℕ = take len (drop 8 l) in
    let n : length sdo ≡ len = part_length l 8 len (omega arith) in
    let same : take len (drop 8 (splice l 0 H)) ≡ sdo = part_apart l 0 H (le-leb 0 (length l) (omega arith)) 8 len (is_apart 0 (length H) 8 len (inl (omega arith))) in
    let own : splice (splice l 0 H) 8 sdo ≡ splice l 0 H = rw same at (splice-own (splice l 0 H) 8 len (omega (arith, length-splice l 0 H (omega arith)))) in
    let both : splice l 0 H ≡ splice l 0 (H ++ sdo) = sym own ∙ splice_behind l 0 H sdo 8 (omega arith) (omega arith) in
    ap (λ (x : List ℕ). splice x (8 + len) zs) both
    ∙ splice_behind l 0 (H ++ sdo) zs (8 + len) (omega (arith, length-append H sdo)) h
    ∙ ap (splice l 0) (append_assoc H sdo zs)

pub sealed_is : (l : List ℕ) (h : Head) (len : ℕ) → 128 ≤ length l → (1 ≤ len) × (len ≤ 120) → {w v : ℕ} {l₁ l₂ zs : List ℕ}
    → w ≡ 2 + len + 65536 * h.address
    → v ≡ 256 * (3 + 16 * counter_in h) + 65536 * (4096 * service_by (get_or l 8 0))
    → l₁ ≡ splice l 0 (little 4 w)
    → l₂ ≡ splice l₁ 4 (little 4 v)
    → zs ≡ replicate (length (take (128 - (8 + len)) (drop (8 + len) l₂))) 0
    → put_mid (8 + len) (128 - (8 + len)) l₂ zs ≡ splice l 0 (sealed h (take len (drop 8 l)))
unfolding sealed
sealed_is l h len long b {w} {v} {l₁} {l₂} {zs} ew ev e₁ e₂ ez =
    let sdo : List ℕ = take len (drop 8 l) in
    let n : length sdo ≡ len = part_length l 8 len (omega (arith, b.1)) in
    let first : get_or sdo 0 0 ≡ get_or l 8 0 = get_or-take len (drop 8 l) 0 0 (omega (arith, b.0)) ∙ get_or-drop 8 l 0 0 in
    let H : List ℕ = little 4 w ++ little 4 v in
    let nH : length H ≡ 8 = length-append (little 4 w) (little 4 v) ∙ ap₂ ◌+◌ (length-little 4 w) (length-little 4 v) in
    let headed : l₂ ≡ splice l 0 H = e₂ ∙ ap (λ (x : List ℕ). splice x 4 (little 4 v)) e₁ ∙ splice_behind l 0 (little 4 w) (little 4 v) 4 (length-little 4 w) (omega (arith, length-little 4 v)) in
    let n₂ : length l₂ ≡ length l = ap (λ (x : List ℕ). length x) headed ∙ length-splice l 0 H (omega arith) in
    let zeros : 128 - (8 + len) ≡ 120 - len = omega arith in
    zeros-lent l₂ (8 + len) 128 (omega (arith, b.1)) (omega arith) ez
    ∙ ap (λ (x : List ℕ). splice x (8 + len) (replicate (128 - (8 + len)) 0)) headed
    ∙ framed l H len (replicate (128 - (8 + len)) 0) nH (omega (arith, b.1, length-replicate {A = ℕ} (128 - (8 + len)) 0))
    ∙ ap (splice l 0) (rw (zeros, ew, ev, first) (mailed_is len h.address (counter_in h) (service_by (get_or l 8 0)) sdo n b.0 b.1 (omega arith)))
