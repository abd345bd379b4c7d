-- Tests on lists.
use Rattle.std.specs.Prelude.{ℕ, Bool, true, false, cond, ◌&&◌, ◌||◌, List, [], ◌∷◌, Some, None, Option, ◌==◌, nat_lt}
use Rattle.bitmap.specs.Passing.{cons_if}

-- whether some element passes
unfoldable pub any_of : {X : Type 0} → (X → Bool) → List X → Bool
any_of p [] = false
any_of p (x ∷ xs) = p x || any_of p xs

-- whether all do
unfoldable pub all_of : {X : Type 0} → (X → Bool) → List X → Bool
all_of p [] = true
all_of p (x ∷ xs) = p x && all_of p xs

-- the first that passes
unfoldable pub first_of : {X : Type 0} → (X → Bool) → List X → Option X
first_of p [] = None
first_of p (x ∷ xs) = cond (p x) (Some x) (first_of p xs)

-- those that pass, in their order
unfoldable pub those : {X : Type 0} → (X → Bool) → List X → List X
those p [] = []
those p (x ∷ xs) = cons_if (p x) x (those p xs)

-- The lower priority number goes first, then the lower of the second numbers.
abbrev pub ranks_before : (priority second priority' second' : ℕ) → Bool
ranks_before p s p' s' = nat_lt p p' || (p == p' && nat_lt s s')
