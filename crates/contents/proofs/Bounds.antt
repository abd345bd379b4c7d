-- The tests on rows, numbers, sizes and strings as facts.
use Rattle.std.proofs.Common.{◌≡◌, ℕ, ◌<◌, ◌≤◌, true, ltb, leb, List, length}
use Rattle.std.proofs.lemmas.Bool.{and_from, and_parts, le-leb, leb-true, lt-ltb, ltb-true}
use Rattle.protocol.specs.Limits.{is_number, least_width, most_numbers, most_strings, most_width, row_count}
use Rattle.contents.specs.Contents.{Contents, fits, in_bounds, limit_fits, nonempty, width_fits}

pub in_bounds_are : (r n : ℕ) → in_bounds r n ≡ true → (r < row_count) × (1 ≤ n) × (n ≤ most_numbers)
in_bounds_are r n h =
    let p = and_parts (ltb r row_count) (is_number n) h in
    let q = and_parts (leb 1 n) (leb n most_numbers) p.1 in
    (ltb-true r row_count p.0, leb-true 1 n q.0, leb-true n most_numbers q.1)

pub in_bounds_from : (r n : ℕ) → r < row_count → 1 ≤ n → n ≤ most_numbers → in_bounds r n ≡ true
in_bounds_from r n a b c = and_from (ltb r row_count) (is_number n) (lt-ltb r row_count a) (and_from (leb 1 n) (leb n most_numbers) (le-leb 1 n b) (le-leb n most_numbers c))

pub fits_are : (s : Contents) (x : List ℕ) → fits s x ≡ true → (0 < length x) × (length x ≤ s.width)
fits_are s x h =
    let p = and_parts (nonempty x) (leb (length x) s.width) h in
    (ltb-true 0 (length x) p.0, leb-true (length x) s.width p.1)

pub fits_from : (s : Contents) (x : List ℕ) → 0 < length x → length x ≤ s.width → fits s x ≡ true
fits_from s x a b = and_from (nonempty x) (leb (length x) s.width) (lt-ltb 0 (length x) a) (le-leb (length x) s.width b)

pub width_are : (w : ℕ) → width_fits w ≡ true → (least_width ≤ w) × (w ≤ most_width)
width_are w h =
    let p = and_parts (leb least_width w) (leb w most_width) h in
    (leb-true least_width w p.0, leb-true w most_width p.1)

pub limit_are : (l : ℕ) → limit_fits l ≡ true → (1 ≤ l) × (l ≤ most_strings)
limit_are l h =
    let p = and_parts (leb 1 l) (leb l most_strings) h in
    (leb-true 1 l p.0, leb-true l most_strings p.1)
