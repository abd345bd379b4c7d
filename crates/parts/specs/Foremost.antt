-- The foremost of what waits in a list.
use Rattle.std.specs.Prelude.{◌≡◌, ℕ, ◌+◌, ◌<◌, Bool, true, false, cond, List, [], ◌∷◌, Some, None, Option, slice_index_or}
use Rattle.std.specs.Option.{option_map}

-- of an element at place i and the foremost behind it, the one that is ahead; the first if neither is
abbrev pub ahead_of : {X : Type 0} → (X → X → Bool) → ℕ → X → Option (ℕ × X) → ℕ × X
ahead_of ahead i x None = (i, x)
ahead_of ahead i x (Some y) = cond (ahead y.1 x) y (i, x)

-- what does not wait is left out
abbrev pub ahead_if : {X : Type 0} → Bool → (X → X → Bool) → ℕ → X → Option (ℕ × X) → Option (ℕ × X)
ahead_if true ahead i x behind = Some (ahead_of ahead i x behind)
ahead_if false ahead i x behind = behind

-- the foremost of what waits, with its place, in a list that begins at place i
unfoldable pub foremost_from : {X : Type 0} → (X → Bool) → (X → X → Bool) → ℕ → List X → Option (ℕ × X)
foremost_from waits ahead i [] = None
foremost_from waits ahead i (x ∷ xs) = ahead_if (waits x) ahead i x (foremost_from waits ahead (i + 1) xs)

-- the place of the foremost of what waits
unfoldable pub foremost_of : {X : Type 0} → (X → Bool) → (X → X → Bool) → List X → Option ℕ
foremost_of waits ahead xs = option_map (λ y. y.0) (foremost_from waits ahead 0 xs)

-- The same as a relation, of the places below n: it waits, nothing that waits is ahead of it, and it is ahead of each before it that waits,
-- so that it is the first of equals. There is none exactly where none waits.
abbrev pub Foremost : {X : Type 0} → (X → Bool) → (X → X → Bool) → List X → ℕ → Option ℕ → Type 0
Foremost {X} waits ahead xs n None = (k : ℕ) (d : X) → k < n → waits (slice_index_or xs k d) ≡ false
Foremost {X} waits ahead xs n (Some b) =
    (b < n) × ((d : X) → waits (slice_index_or xs b d) ≡ true)
    × ((k : ℕ) (d : X) → k < n → waits (slice_index_or xs k d) ≡ true → ahead (slice_index_or xs k d) (slice_index_or xs b d) ≡ false)
    × ((k : ℕ) (d : X) → k < b → waits (slice_index_or xs k d) ≡ true → ahead (slice_index_or xs b d) (slice_index_or xs k d) ≡ true)
