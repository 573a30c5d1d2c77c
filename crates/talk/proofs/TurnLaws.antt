-- A line's turn, case by case; a byte's and a chunk's. Assumes nothing.
use mathlib.Core.Bool.{Bool, true, false}
use mathlib.Core.List.{List}
use mathlib.Core.Path.{◌≡◌, refl, sym, ap, ◌∙◌}
use Prim.Native.Nat.{ℕ, ◌+◌, ◌≤◌, ◌<◌}
use native.Mathlib.Numerals.{add-one}
use lib.ListN.{length, take, drop, get_or, replicate, drop_of_length-le}
use lib.Seq.{drop-cons}
use borrow.Author.Tests.{eq-eqb, ne_eqb}
use Rattle.board.specs.Calls.{called, message_call}
use Rattle.dialogue.specs.declared.Spoken.{Spoken}
use Rattle.std.specs.Prelude.{Option, Some, None}
use Rattle.dialogue.specs.Text.{answer_text, none_text, spoken}
use Rattle.dialogue.specs.declared.hear.Pending.{Pending}
use Rattle.dialogue.specs.Lines.{after, pending_spoken}
use Rattle.dialogue.proofs.Hearing.{after-count}
use Rattle.dialogue.proofs.TextLaws.{spoken-line}
use Rattle.talk.specs.declared.serve.Memory.{Memory}
use Rattle.talk.specs.Turns.{memory, Turn, turn, answered_turn, taken, OnLines}
use Rattle.talk.specs.Run.{Progress, progress, after_line, served_if, after_byte, after_bytes}

module _ (s : Spoken) (m : Memory) (number : ℕ) (v b st answer text : List ℕ) (e : called number v b st answer ≡ message_call s.line s.eight m.values m.block m.state (replicate 8 0)) where
  pub none_taken : number ≡ 5 → text ≡ none_text s.line → turn text (memory v b st) ≡ taken (Some s) m
  unfolding taken answered_turn
  none_taken k t = rw (← e, eq-eqb number 5 k, t)

  pub answer-taken : (number ≡ 5 → ⊥) → text ≡ answer_text s.line answer → turn text (memory v b st) ≡ taken (Some s) m
  unfolding taken answered_turn
  answer-taken k t = rw (← e, ne_eqb number 5 k, t)

-- the line that has come, from what it says
pub line_taken : (p : Pending) (s : Option Spoken) (m left : Memory) (text : List ℕ) → s ≡ pending_spoken p → turn text left ≡ taken s m → left ≡ after_line p m
unfolding after_line
line_taken p s m left text h e = ap (λ (t : Turn). t.left) e ∙ ap (λ (x : Option Spoken). (taken x m).left) h

served_true : (e : Bool) (p : Pending) (m : Memory) → e ≡ true → served_if e p m ≡ progress p (after_line p m)
unfolding served_if
served_true e p m h = rw h

served_false : (e : Bool) (p : Pending) (m : Memory) → e ≡ false → served_if e p m ≡ progress p m
unfolding served_if
served_false e p m h = rw h

module _ (begun p : Pending) (byte : ℕ) (m : Memory) (e : p ≡ after begun byte) where
  byte_served : served_if p.ended p m ≡ after_byte (progress begun m) byte
  unfolding after_byte
  byte_served = ap (λ (q : Pending). served_if q.ended q m) e

  pub byte_ends : (left : Memory) → p.ended ≡ true → left ≡ after_line p m → progress p left ≡ after_byte (progress begun m) byte
  byte_ends left h k = ap (progress p) k ∙ sym (served_true p.ended p m h) ∙ byte_served

  pub byte_goes : p.ended ≡ false → progress p m ≡ after_byte (progress begun m) byte
  byte_goes h = sym (served_false p.ended p m h) ∙ byte_served

served-pending : (e : Bool) (p : Pending) (m : Memory) → (served_if e p m).pending ≡ p
unfolding served_if
served-pending true p m = refl
served-pending false p m = refl

-- no more than twenty bytes are kept
pub byte-kept : (g next : Progress) (b : ℕ) → next ≡ after_byte g b → g.pending.count ≤ 20 → next.pending.count ≤ 20
unfolding after_byte
byte-kept g next b e h = rw (e, served-pending) (after-count g.pending b h)

pub bytes-turn : (bytes : List ℕ) (i : ℕ) (g next : Progress) → i < length bytes → next ≡ after_byte g (get_or bytes i 0) → after_bytes next (drop (i + 1) bytes) ≡ after_bytes g (drop i bytes)
unfolding after_bytes
bytes-turn bytes i g next h e = rw (e, add-one i, drop-cons bytes i 0 h)

pub bytes-done : (bytes : List ℕ) (i : ℕ) (g all : Progress) → length bytes ≤ i → after_bytes g (drop i bytes) ≡ all → g ≡ all
unfolding after_bytes
bytes-done bytes i g all h e = sym (ap (after_bytes g) (drop_of_length-le bytes {i = i} h)) ∙ e

pub pending-line : (p : Pending) → OnLines (pending_spoken p)
unfolding pending_spoken
pending-line p = go (spoken (take p.count p.text)) refl
  where
    go : (o : Option Spoken) → spoken (take p.count p.text) ≡ o → OnLines o
    go (Some s) e = spoken-line (take p.count p.text) s e
    go None e = tt
