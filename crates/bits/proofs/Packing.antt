-- The laws of fields one after the other, there and back. Assumes nothing.
use mathlib.Core.List.{List, [], ◌∷◌, ◌++◌, append_assoc}
use mathlib.Core.Path.{◌≡◌, refl, sym, ap, ◌∙◌}
use Prim.Native.Nat.{ℕ, ◌+◌, ◌≤◌}
use native.Mathlib.Omega.{arith}
use lib.ListN.{length, take, drop, length-append, length-drop, take-append-drop}
use lib.Seq.{take_at, drop_at, length-take-le, drop-drop}
use Rattle.bits.proofs.Numbers.{length-msb, num-msb, msb-num, small_take, small_drop}
use Rattle.bits.specs.Bits.{msb, num, Small}
use Rattle.bits.specs.Fields.{encode, decode, total, Packable}
use Rattle.wire.proofs.SpliceLaws.{splice_then}
use Rattle.wire.specs.Splice.{splice}

-- ---- there and back, for any fields

pub length-encode : (ws vs : List ℕ) → Packable ws vs → length (encode ws vs) ≡ total ws
unfolding encode total Packable
length-encode [] vs h = refl
length-encode (w ∷ ws) [] h = absurd h
length-encode (w ∷ ws) (v ∷ vs) h = omega (arith, length-append (msb w v) (encode ws vs), length-msb w v, length-encode ws vs h.1)

-- what was packed reads back
pub decode-encode : (ws vs rest : List ℕ) → Packable ws vs → decode ws (encode ws vs ++ rest) ≡ vs
unfolding encode decode Packable
decode-encode [] [] rest h = refl
decode-encode [] (v ∷ vs) rest h = absurd h
decode-encode (w ∷ ws) [] rest h = absurd h
decode-encode (w ∷ ws) (v ∷ vs) rest h =
    rw (append_assoc (msb w v) (encode ws vs) rest, take_at (msb w v) (encode ws vs ++ rest) w (length-msb w v), drop_at (msb w v) (encode ws vs ++ rest) w (length-msb w v), num-msb w v h.0.1, decode-encode ws vs rest h.1)

-- what was read packs to the same bits
pub encode-decode : (ws bs : List ℕ) → Small bs → total ws ≤ length bs → encode ws (decode ws bs) ++ drop (total ws) bs ≡ bs
unfolding encode decode total
encode-decode [] bs h g = refl
encode-decode (w ∷ ws) bs h g =
    let t : List ℕ = take w bs in
    let d : List ℕ = drop w bs in
    let lt : length t ≡ w = length-take-le w bs (omega arith) in
    let e : msb w (num t) ≡ t = msb-num w t (small_take w bs h) lt in
    let dd : drop (w + total ws) bs ≡ drop (total ws) d = sym (drop-drop (total ws) w bs) in
    rw (e, dd, append_assoc t (encode ws (decode ws d)) (drop (total ws) d), encode-decode ws d (small_drop w bs h) (omega (arith, length-drop w bs)))
    (take-append-drop w bs)

-- ---- a field more

pub splice-field : (l : List ℕ) (at w v : ℕ) (bs : List ℕ) → at + w + length bs ≤ length l → splice (splice l at (msb w v)) (at + w) bs ≡ splice l at (msb w v ++ bs)
splice-field l at w v bs h =
    let n : length (msb w v) ≡ w = length-msb w v in
    ap (λ (k : ℕ). splice (splice l at (msb w v)) (at + k) bs) (sym n)
    ∙ splice_then l at (msb w v) bs (omega arith)
