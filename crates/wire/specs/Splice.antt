-- RULE: a list with some of it replaced. Every write into lent bytes is said with it.
use Rattle.std.specs.Prelude.{Bool, ◌||◌, List, ◌++◌, ℕ, ◌+◌, leb, length, take, drop}

-- the list with vs in the place of what stands from at on
unfoldable pub splice : List ℕ → ℕ → List ℕ → List ℕ
splice l at vs = take at l ++ (vs ++ drop (at + length vs) l)

-- the n from p on and the m from q on have nothing in common
abbrev pub apart : ℕ → ℕ → ℕ → ℕ → Bool
apart p n q m = leb (p + n) q || leb (q + m) p
