-- The first place of a list whose element passes a test.
use Rattle.std.specs.Prelude.{◌≡◌, ℕ, ◌+◌, ◌<◌, Bool, true, false, cond, List, [], ◌∷◌, length, Some, None, Option, slice_index_or}

-- in a list that begins at place i
unfoldable pub first_from : {X : Type 0} → (X → Bool) → ℕ → List X → Option ℕ
first_from p i [] = None
first_from p i (x ∷ xs) = cond (p x) (Some i) (first_from p (i + 1) xs)

unfoldable pub first_place : {X : Type 0} → (X → Bool) → List X → Option ℕ
first_place p xs = first_from p 0 xs

-- The same as a relation: its element passes, and none before it does. There is none exactly where none passes.
abbrev pub First : {X : Type 0} → (X → Bool) → List X → Option ℕ → Type 0
First {X} p xs None = (k : ℕ) (d : X) → k < length xs → p (slice_index_or xs k d) ≡ false
First {X} p xs (Some b) = (b < length xs) × ((d : X) → p (slice_index_or xs b d) ≡ true) × ((k : ℕ) (d : X) → k < b → p (slice_index_or xs k d) ≡ false)
