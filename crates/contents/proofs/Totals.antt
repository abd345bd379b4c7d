-- How many strings a store holds after a put and after a free.
use Rattle.std.proofs.Common.{◌≡◌, ℕ, ◌+◌, ◌-◌, ◌<◌, ◌≤◌, true, cond, List, [], length, get_or, set, ap, arith}
use Rattle.std.proofs.ByRecursion.{All-from_get_or, sum_by_le}
use Rattle.std.proofs.lemmas.List.Sums.{count_by-le-length, sum_by-set}
use Rattle.std.proofs.lemmas.Bool.{le-ltb, lt-ltb}
use Rattle.protocol.specs.Limits.{most_numbers, most_strings, row_count}
use Rattle.contents.specs.Contents.{Contents, Sound, filled, in_bounds, nonempty, row_at, string_at, total, vacant, with_row, with_string}
use Rattle.contents.proofs.Bounds.{in_bounds_are}
use Rattle.contents.proofs.Strings.{string_in}
use Rattle.contents.proofs.Vacant.{filled-vacant}

-- one for a string that is held
held_one : List ℕ → ℕ
held_one x = cond (nonempty x) 1 0

held_one_lem : (x : List ℕ) → 0 < length x → held_one x ≡ 1
unfolding held_one
held_one_lem x h = rw (lt-ltb 0 (length x) h)

held_none : (x : List ℕ) → length x ≡ 0 → held_one x ≡ 0
unfolding held_one
held_none x h = rw (le-ltb 0 (length x) (omega arith))

-- one row changed
total_row : (s : Contents) (r : ℕ) (row : List (List ℕ)) → r < length s.rows → total (with_row s r row) + filled (row_at s r) ≡ total s + filled row
unfolding total
total_row s r row h = sum_by-set filled s.rows r row [] h

-- one string changed
total_string : (s : Contents) (r n : ℕ) (x : List ℕ) → Sound s → in_bounds r n ≡ true
    → total (with_string s r n x) + held_one (string_at s r n) ≡ total s + held_one x
unfolding held_one
total_string s r n x ok h =
    let b = in_bounds_are r n h in
    let l = ok.numbers_all r b.0 in
    let a = total_row s r (set (row_at s r) (n - 1) x) (omega (arith, ok.rows_all)) in
    let c = sum_by-set held_one (row_at s r) (n - 1) x [] (omega arith) in
    let e : held_one (string_at s r n) ≡ held_one (get_or (row_at s r) (n - 1) []) = ap held_one (string_in s r n h) in
    omega arith

-- a string put where none is held
pub total_put : (s : Contents) (r n : ℕ) (x : List ℕ) → Sound s → in_bounds r n ≡ true → length (string_at s r n) ≡ 0 → 0 < length x → total (with_string s r n x) ≡ total s + 1
total_put s r n x ok h none some = omega (arith, total_string s r n x ok h, held_none (string_at s r n) none, held_one_lem x some)

-- a held string removed
pub total_less : (s : Contents) (r n : ℕ) → Sound s → in_bounds r n ≡ true → 0 < length (string_at s r n) → total (with_string s r n []) + 1 ≡ total s
total_less s r n ok h some = omega (arith, total_string s r n [] ok h, held_one_lem (string_at s r n) some, held_none [] (omega arith))

-- a row freed
pub total_free : (s : Contents) (r : ℕ) → Sound s → r < row_count → total (with_row s r vacant) + filled (row_at s r) ≡ total s
total_free s r ok h = omega (arith, total_row s r vacant (omega (arith, ok.rows_all)), filled-vacant)

-- no more than there are places
pub total_most : (s : Contents) → length s.rows ≡ row_count → ((r : ℕ) → r < row_count → length (row_at s r) ≡ most_numbers) → total s ≤ most_strings
unfolding total
total_most s all each =
    let a = sum_by_le filled most_numbers s.rows
    (All-from_get_or (λ row. filled row ≤ most_numbers) s.rows []
    (λ i h. omega (arith, count_by-le-length nonempty (get_or s.rows i []), each i (omega arith)))) in
    omega arith
