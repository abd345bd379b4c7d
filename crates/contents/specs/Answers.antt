-- What each call of a store answers. A refusal is told by its cause.
use Rattle.std.specs.Prelude.{ℕ, cond, not, ◌||◌, List, [], ◌∷◌, ◌++◌, length, drop, Ok, Err, Result, ◌==◌, nat_lt}
use Rattle.protocol.specs.Causes.{Cause, cause}
use Rattle.protocol.specs.Limits.{row_count}
use Rattle.contents.specs.Contents.{Contents, fits, in_bounds, is_held, string_at, total, width_fits}

-- Put. In order: the string is empty or over the width, the store is at its limit, the place is out of bounds or holds a string.
abbrev pub put_answer : Contents → (row number : ℕ) → List ℕ → Result (Unit {0}) Cause
put_answer s r n x =
    cond (not (fits s x)) (Err (cause 11 (s.width ∷ [])))
    (cond (total s == s.limit) (Err (cause 10 (s.limit ∷ [])))
    (cond (not (in_bounds r n) || is_held s r n) (Err (cause 20 (r ∷ n ∷ [])))
    (Ok tt)))

-- Get, with room for so many octets. In order: no string is held there, the room is too little.
abbrev pub get_answer : Contents → (row number room : ℕ) → Result ℕ Cause
get_answer s r n room =
    cond (not (is_held s r n)) (Err (cause 20 (r ∷ n ∷ [])))
    (cond (nat_lt room (length (string_at s r n))) (Err (cause 12 (length (string_at s r n) ∷ [])))
    (Ok (length (string_at s r n))))

-- Free. The row is out of bounds.
abbrev pub free_answer : (row : ℕ) → Result (Unit {0}) Cause
free_answer r = cond (nat_lt r row_count) (Ok tt) (Err (cause 20 (r ∷ 0 ∷ [])))

-- a buffer with a string written over its front
abbrev pub fronted : (string buffer : List ℕ) → List ℕ
fronted x out = x ++ drop (length x) out

-- What the making of a store refuses with: the width if that is out of bounds, else the limit, which is told for want of memory too.
abbrev pub making_cause : (width limit : ℕ) → Cause
making_cause w l = cause 21 (cond (width_fits w) l w ∷ [])
