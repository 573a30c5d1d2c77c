-- THE WHOLE RUN: however the input comes, the memory is in the end what its lines leave, one after the other. Assumes nothing.
use mathlib.Core.Bool.{Bool, true, false, cond}
use mathlib.Core.List.{List, [], ◌∷◌, ◌++◌, map}
use mathlib.Core.Path.{◌≡◌, refl, sym, ap, ◌∙◌}
use Prim.Native.Nat.{ℕ, ◌+◌, ◌<◌}
use native.Mathlib.Numerals.{add-one}
use lib.ListN.{length, take, get_or}
use lib.Seq.{take-suc}
use Rattle.dialogue.specs.Text.{spoken}
use Rattle.dialogue.specs.declared.hear.Pending.{Pending}
use Rattle.dialogue.specs.Lines.{lines, nothing_yet, after, pending_spoken, left_over, lines_heard}
use Rattle.dialogue.proofs.Hearing.{heard}
use Rattle.talk.specs.declared.serve.Memory.{Memory}
use Rattle.talk.specs.Turns.{taken}
use Rattle.talk.specs.Run.{Progress, progress, after_line, served_if, after_byte, after_bytes, after_end, after_lines}

module _ (bs : List ℕ) (rest : (p : Pending) (m : Memory) → after_end (after_bytes (progress p m) bs) ≡ after_lines m (lines_heard p bs)) where
  one_byte : (p : Pending) (m : Memory) (e : Bool) → after_end (after_bytes (served_if e p m) bs) ≡ after_lines m (cond e (pending_spoken p ∷ lines_heard p bs) (lines_heard p bs))
  unfolding served_if after_lines after_line
  one_byte p m true = rest p (taken (pending_spoken p) m).left
  one_byte p m false = rest p m

ended : (p : Pending) (m : Memory) (e : Bool) → cond e (after_line p m) m ≡ after_lines m (cond e (pending_spoken p ∷ []) [])
unfolding after_lines after_line
ended p m true = refl
ended p m false = refl

told-served : (bs : List ℕ) (p : Pending) (m : Memory) → after_end (after_bytes (progress p m) bs) ≡ after_lines m (lines_heard p bs)
unfolding after_bytes after_end after_byte lines_heard
told-served [] p m = ended p m (left_over p)
told-served (b ∷ bs) p m = one_byte bs (told-served bs) (after p b) m (after p b).ended

pub all-served : (m : Memory) (input : List ℕ) → after_end (after_bytes (progress nothing_yet m) input) ≡ after_lines m (map spoken (lines input))
all-served m input = told-served input nothing_yet m ∙ ap (after_lines m) (heard input)

-- and however it is cut into chunks, it is the same input
pub chunks : (a b : List ℕ) (g : Progress) → after_bytes g (a ++ b) ≡ after_bytes (after_bytes g a) b
unfolding after_bytes
chunks [] b g = refl
chunks (x ∷ a) b g = chunks a b (after_byte g x)

-- one byte more is taken
module _ (bytes : List ℕ) (i : ℕ) (g now : Progress) (h : i < length bytes) (e : now ≡ after_bytes g (take i bytes)) where
  taken_more : after_byte now (get_or bytes i 0) ≡ after_bytes g (take (i + 1) bytes)
  unfolding after_bytes
  taken_more = rw (add-one i, take-suc bytes i 0 h, e) (sym (chunks (take i bytes) (get_or bytes i 0 ∷ []) g))

  pub taken_next : (next : Progress) → next ≡ after_byte now (get_or bytes i 0) → next ≡ after_bytes g (take (i + 1) bytes)
  taken_next next k = k ∙ taken_more

  pub left_next : (left : Memory) → left ≡ (after_byte now (get_or bytes i 0)).left → left ≡ (after_bytes g (take (i + 1) bytes)).left
  left_next left k = k ∙ ap (λ (x : Progress). x.left) taken_more
