-- RULE: THE MEMORY OVER A WHOLE INPUT: byte by byte as the program goes, and line by line. Both come to the same (proofs/Whole.antt).
use Rattle.std.specs.Prelude.{◌≡◌, ◌<◌, ◌+◌, Bool, true, false, cond, List, [], ◌∷◌, length, take, ℕ, Option}
use Rattle.dialogue.specs.declared.Spoken.{Spoken}
use Rattle.dialogue.specs.declared.hear.Pending.{Pending}
use Rattle.dialogue.specs.Lines.{after, pending_spoken, left_over}
use Rattle.talk.specs.declared.serve.Memory.{Memory}
use Rattle.talk.specs.Turns.{taken}

pub record Progress : Type 0 where
  pub pending : Pending
  pub left : Memory

abbrev pub progress : Pending → Memory → Progress
progress p m = record { pending = p; left = m }

-- the line that has come is served
unfoldable pub after_line : Pending → Memory → Memory
after_line p m = (taken (pending_spoken p) m).left

unfoldable pub served_if : Bool → Pending → Memory → Progress
served_if true p m = progress p (after_line p m)
served_if false p m = progress p m

-- a line is served with the byte that ends it
unfoldable pub after_byte : Progress → ℕ → Progress
after_byte g b = served_if (after g.pending b).ended (after g.pending b) g.left

unfoldable pub after_bytes : Progress → List ℕ → Progress
after_bytes g [] = g
after_bytes g (b ∷ bs) = after_bytes (after_byte g b) bs

-- where a reply could not be printed: the bytes up to one of them were taken, that one too, and none behind it
abbrev pub SomeTaken : Progress → List ℕ → Memory → Type 0
SomeTaken g bs m = (n : ℕ) × ((n < length bs) × (m ≡ (after_bytes g (take (n + 1) bs)).left))

-- at the end of the input the last line is served too, where it has no newline and is not empty
unfoldable pub after_end : Progress → Memory
after_end g = cond (left_over g.pending) (after_line g.pending g.left) g.left

-- line by line
unfoldable pub after_lines : Memory → List (Option Spoken) → Memory
after_lines m [] = m
after_lines m (s ∷ ss) = after_lines (taken s m).left ss
