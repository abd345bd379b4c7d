-- What the ends ask of a store: room for one more string, rows freed, and strings joined.
use Rattle.std.specs.Prelude.{ℕ, zero, suc, ◌+◌, Bool, cond, not, List, [], ◌∷◌, ◌++◌, Some, None, Option, ◌==◌}
use Rattle.protocol.specs.Causes.{Cause, cause}
use Rattle.contents.specs.Contents.{Contents, fits, total, vacant, string_at, with_row}

-- Why a store has no room for a string: the string is empty or too long, else the store is at its limit.
unfoldable pub no_room : Contents → List ℕ → Option Cause
no_room s x =
    cond (not (fits s x)) (Some (cause 11 (s.width ∷ [])))
    (cond (total s == s.limit) (Some (cause 10 (s.limit ∷ [])))
    None)

abbrev pub freed : Contents → (row : ℕ) → Contents
freed s r = with_row s r vacant

-- the store's rows, those freed whose row of the end passes
unfoldable pub freed_rows : {X : Type 0} → (X → Bool) → List X → List (List (List ℕ)) → List (List (List ℕ))
freed_rows p [] rows = rows
freed_rows p (x ∷ xs) [] = []
freed_rows p (x ∷ xs) (row ∷ rows) = cond (p x) vacant row ∷ freed_rows p xs rows

unfoldable pub freed_where : {X : Type 0} → (X → Bool) → List X → Contents → Contents
freed_where p xs s = record { width = s.width; limit = s.limit; rows = freed_rows p xs s.rows }

-- the strings of so many numbers from n on, joined
unfoldable pub joined_from : Contents → (row n count : ℕ) → List ℕ
joined_from s r n zero = []
joined_from s r n (suc k) = string_at s r n ++ joined_from s r (n + 1) k
