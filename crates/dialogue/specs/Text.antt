-- RULE: A TEXT LINE: what it says, and what is printed (R17.1, R17.2). Bytes are ASCII codes.
use Rattle.std.specs.Prelude.{Bool, true, cond, ◌&&◌, ◌||◌, List, [], ◌∷◌, ◌++◌, ℕ, ◌+◌, ◌-◌, ◌*◌, ◌/◌, ◌%◌, leb, ltb, eqb, length, take, drop, get_or, Option, Some, None}
use Rattle.dialogue.specs.declared.Spoken.{Spoken}

unfoldable pub between : ℕ → ℕ → ℕ → Bool
between low b high = leb low b && leb b high

-- a hex digit: 0 to 9, A to F, a to f
unfoldable pub is_digit : ℕ → Bool
is_digit b = between 48 b 57 || (between 65 b 70 || between 97 b 102)

unfoldable pub digit_value : ℕ → ℕ
digit_value b = cond (between 48 b 57) (b - 48) (cond (between 65 b 70) (b - 55) (cond (between 97 b 102) (b - 87) 0))

unfoldable pub all_digits : List ℕ → Bool
all_digits [] = true
all_digits (b ∷ bs) = is_digit b && all_digits bs

-- two digits are a byte, the higher one first
unfoldable pub pairs : List ℕ → List ℕ
pairs [] = []
pairs (h ∷ []) = []
pairs (h ∷ l ∷ rest) = (16 * digit_value h + digit_value l) ∷ pairs rest

-- 0 or 1, one blank, sixteen hex digits (R17.1)
unfoldable pub is_message : List ℕ → Bool
is_message l = eqb (length l) 18 && (between 48 (get_or l 0 0) 49 && (eqb (get_or l 1 0) 32 && all_digits (drop 2 l)))

abbrev pub a_message : ℕ → List ℕ → Option Spoken
a_message n bytes = Some (record { line = n; eight = bytes })

unfoldable pub read : List ℕ → Option Spoken
read l = cond (is_message l) (a_message (get_or l 0 0 - 48) (pairs (drop 2 l))) None

-- house: one carriage return right before the newline is no part of the line
unfoldable pub without_return : List ℕ → List ℕ
without_return l = cond (eqb (get_or l (length l - 1) 0) 13) (take (length l - 1) l) l

-- what a line says, if it is a message; given without its newline
unfoldable pub spoken : List ℕ → Option Spoken
spoken l = read (without_return l)

-- ---- what is printed

-- a capital hex digit (R17.1)
unfoldable pub capital : ℕ → ℕ
capital n = cond (ltb n 10) (48 + n) (55 + n)

unfoldable pub hex_text : List ℕ → List ℕ
hex_text [] = []
hex_text (b ∷ bs) = capital (b / 16) ∷ capital (b % 16) ∷ hex_text bs

-- eight bytes on a line, as they are typed and as they are printed
unfoldable pub message_text : ℕ → List ℕ → List ℕ
message_text n bytes = (48 + n) ∷ 32 ∷ hex_text bytes

unfoldable pub answer_text : ℕ → List ℕ → List ℕ
answer_text n bytes = message_text n bytes ++ (10 ∷ [])

-- a dash where there is no answer (R17.1)
unfoldable pub none_text : ℕ → List ℕ
none_text n = (48 + n) ∷ 32 ∷ 45 ∷ 10 ∷ []

unfoldable pub unknown_text : List ℕ
unknown_text = 63 ∷ 10 ∷ []
