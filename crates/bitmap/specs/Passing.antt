-- Tests on the numbers from 1 on: how many pass, which is the greatest that does, which the lowest, and the list of those that do.
use Rattle.std.specs.Prelude.{◌≡◌, ℕ, zero, suc, ◌+◌, ◌<◌, ◌≤◌, Bool, true, false, cond, List, [], ◌∷◌, Some, None, Option}

-- how many of 1 to n pass
unfoldable pub tally : (ℕ → Bool) → ℕ → ℕ
tally p zero = 0
tally p (suc n) = tally p n + cond (p (suc n)) 1 0

-- the greatest of 1 to n that passes, 0 if none does
unfoldable pub greatest : (ℕ → Bool) → ℕ → ℕ
greatest p zero = 0
greatest p (suc n) = cond (p (suc n)) (suc n) (greatest p n)

-- the lowest that passes, of n numbers from a on
unfoldable pub lowest_from : (ℕ → Bool) → ℕ → ℕ → Option ℕ
lowest_from p a zero = None
lowest_from p a (suc n) = cond (p a) (Some a) (lowest_from p (a + 1) n)

-- an element in front of a list, or not
abbrev pub cons_if : {X : Type 0} → Bool → X → List X → List X
cons_if true x xs = x ∷ xs
cons_if false x xs = xs

-- those that pass, of n numbers from a on, rising
unfoldable pub rising_from : (ℕ → Bool) → ℕ → ℕ → List ℕ
rising_from p a zero = []
rising_from p a (suc n) = cons_if (p a) a (rising_from p (a + 1) n)

-- The same as relations.

-- t is the greatest that passes, 0 if none does
abbrev pub Top : (ℕ → Bool) → ℕ → Type 0
Top p t = (0 < t → p t ≡ true) × ((k : ℕ) → t < k → p k ≡ false)

-- what comes first of those that pass from a on
abbrev pub Next : (ℕ → Bool) → ℕ → Option ℕ → Type 0
Next p a None = (k : ℕ) → a ≤ k → p k ≡ false
Next p a (Some m) = (a ≤ m) × (p m ≡ true) × ((k : ℕ) → a ≤ k → k < m → p k ≡ false)
