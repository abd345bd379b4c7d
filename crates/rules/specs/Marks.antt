-- What the list of an ACK says of each number.
use Rattle.std.specs.Prelude.{ℕ, Bool, false, cond, not, ◌&&◌, ◌||◌, List, [], ◌∷◌, ◌==◌, nat_le, nat_lt}
use Rattle.parts.specs.declared.numbers.Numbers.{Numbers}
use Rattle.parts.specs.Numbers.{has, set_of}

-- whether a number is listed
abbrev pub listed : List ℕ → ℕ → Bool
listed [] n = false
listed (x ∷ xs) n = x == n || listed xs n

-- A pair covers what lies between if it rises, else all above its first and all below its second.
abbrev pub covers : ℕ → ℕ → ℕ → Bool
covers a b n = cond (nat_lt a b) (nat_lt a n && nat_lt n b) (nat_lt a n || nat_lt n b)

-- whether some adjacent pair covers a number, the list going on after a
abbrev pub covered_after : ℕ → List ℕ → ℕ → Bool
covered_after a [] n = false
covered_after a (b ∷ xs) n = covers a b n || covered_after b xs n

-- A list of one number has no pair.
abbrev pub covered : List ℕ → ℕ → Bool
covered [] n = false
covered (a ∷ xs) n = covered_after a xs n

-- A listed number is missing; an unlisted one that a pair covers is not; the rest stay as they were.
abbrev pub missing_after : Numbers → List ℕ → ℕ → Bool
missing_after missing list n = listed list n || (not (covered list n) && has missing n)

-- what is missing after a list, of a message of so many fragments
unfoldable pub marked : Numbers → (total : ℕ) → List ℕ → Numbers
marked missing total list = set_of (λ n. nat_le n total && missing_after missing list n)
