-- RULE: THE TEXT LINES OF AN INPUT (R17.1), and the same as the bytes come one by one: `lines_heard nothing_yet input` is
-- `map spoken (lines input)`, which is the theorem of proofs/Hearing.antt.
use Rattle.std.specs.Prelude.{Bool, true, false, cond, not, ◌&&◌, List, [], ◌∷◌, ◌++◌, ℕ, ◌+◌, ltb, eqb, length, take, set, replicate, Option}
use Rattle.dialogue.specs.declared.Spoken.{Spoken}
use Rattle.dialogue.specs.declared.hear.Pending.{Pending}
use Rattle.dialogue.specs.Text.{spoken}

-- ---- the whole input

-- the lines of what is still to come, the first of which has begun with these bytes; a newline ends a line, and a last line without
-- one counts where it is not empty
unfoldable pub lines_from : List ℕ → List ℕ → List (List ℕ)
lines_from begun [] = cond (ltb 0 (length begun)) (begun ∷ []) []
lines_from begun (b ∷ bs) = cond (eqb b 10) (begun ∷ lines_from [] bs) (lines_from (begun ++ (b ∷ [])) bs)

abbrev pub lines : List ℕ → List (List ℕ)
lines input = lines_from [] input

-- ---- byte by byte

unfoldable pub nothing_yet : Pending
nothing_yet = record { text = replicate 20 0; count = 0; ended = false }

-- one byte more; past the twentieth it is not kept, for a line so long is no message whatever it is
unfoldable pub extended : List ℕ → ℕ → ℕ → Pending
extended text n b =
    cond (eqb b 10) (record { text = text; count = n; ended = true })
    (cond (ltb n 20) (record { text = set text n b; count = n + 1; ended = false }) (record { text = text; count = n; ended = false }))

unfoldable pub after : Pending → ℕ → Pending
after p b = extended p.text (cond p.ended 0 p.count) b

-- what the line says that has come so far
unfoldable pub pending_spoken : Pending → Option Spoken
pending_spoken p = spoken (take p.count p.text)

-- at the end of the input: something of a line without a newline
unfoldable pub left_over : Pending → Bool
left_over p = not p.ended && ltb 0 p.count

-- what is told, line by line, as these bytes come and then no more
unfoldable pub lines_heard : Pending → List ℕ → List (Option Spoken)
lines_heard p [] = cond (left_over p) (pending_spoken p ∷ []) []
lines_heard p (b ∷ bs) = cond (after p b).ended (pending_spoken (after p b) ∷ lines_heard (after p b) bs) (lines_heard (after p b) bs)
