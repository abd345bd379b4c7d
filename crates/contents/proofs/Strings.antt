-- The string at a place, after a put and after a free.
use Rattle.std.proofs.Common.{◌≡◌, ℕ, ◌-◌, true, false, ◌≢◌, ◌⊎◌, List, [], length, get_or, set, sym, ap, ◌∙◌, inl, inr, ⊎_elim, arith}
use Rattle.std.proofs.lemmas.List.{get_or_past, get_or-set_other, get_or-set_same, nil_from_length, set-get_or, set_past}
use Rattle.std.proofs.lemmas.Bool.{cases_Bool, cases_eq, cases_lt, cond-false, cond-true}
use Rattle.contents.specs.Contents.{Contents, Sound, empty_store, in_bounds, row_at, string_at, vacant, with_row, with_string}
use Rattle.contents.proofs.Bounds.{in_bounds_are}
use Rattle.contents.proofs.Vacant.{get_d_vacant, get_d_vacants}

pub string_in : (s : Contents) (r n : ℕ) → in_bounds r n ≡ true → string_at s r n ≡ get_or (row_at s r) (n - 1) []
unfolding string_at
string_in s r n h = cond-true (in_bounds r n) (get_or (row_at s r) (n - 1) []) [] h

pub string_out : (s : Contents) (r n : ℕ) → in_bounds r n ≡ false → string_at s r n ≡ []
unfolding string_at
string_out s r n h = cond-false (in_bounds r n) (get_or (row_at s r) (n - 1) []) [] h

-- two stores with the same string there
string_same : (s t : Contents) (r n : ℕ) → (in_bounds r n ≡ true → get_or (row_at s r) (n - 1) [] ≡ get_or (row_at t r) (n - 1) []) → string_at s r n ≡ string_at t r n
string_same s t r n e =
    ⊎_elim (λ h. string_in s r n h ∙ e h ∙ sym (string_in t r n h)) (λ h. string_out s r n h ∙ sym (string_out t r n h)) (cases_Bool (in_bounds r n))

-- the same place or another
pub cases_place : (q r m n : ℕ) → ((q ≡ r) × (m ≡ n)) ⊎ ((q ≡ r) × (m ≡ n) → ⊥)
cases_place q r m n =
    ⊎_elim
    (λ e. ⊎_elim (λ i. inl (e, i)) (λ ni. inr (λ u. ni u.1)) (cases_eq m n))
    (λ ne. inr (λ u. ne u.0))
    (cases_eq q r)

-- a string put
pub string_put_same : (s : Contents) (r n : ℕ) (x : List ℕ) → Sound s → in_bounds r n ≡ true → string_at (with_string s r n x) r n ≡ x
string_put_same s r n x ok h =
    let b = in_bounds_are r n h in
    let l = ok.numbers_all r b.0 in
    let row : row_at (with_string s r n x) r ≡ set (row_at s r) (n - 1) x = get_or-set_same s.rows r (set (row_at s r) (n - 1) x) [] (omega (arith, ok.rows_all)) in
    string_in (with_string s r n x) r n h ∙ ap (λ t. get_or t (n - 1) []) row ∙ get_or-set_same (row_at s r) (n - 1) x [] (omega arith)

-- another row changed, as by a put or a free
pub string_row_other : (s : Contents) (r : ℕ) (row : List (List ℕ)) (q m : ℕ) → q ≢ r → string_at (with_row s r row) q m ≡ string_at s q m
string_row_other s r row q m ne = string_same (with_row s r row) s q m (λ _. ap (λ t. get_or t (m - 1) []) (get_or-set_other s.rows r q row [] ne))

pub string_put_other : (s : Contents) (r n : ℕ) (x : List ℕ) (q m : ℕ) → in_bounds r n ≡ true → ((q ≡ r) × (m ≡ n) → ⊥) → string_at (with_string s r n x) q m ≡ string_at s q m
string_put_other s r n x q m h ne =
    ⊎_elim
    (λ e. ⊎_elim
    (λ low. rw e (string_same (with_string s r n x) s r m
    (λ k. let b = in_bounds_are r n h in
    let d = in_bounds_are r m k in
    ap (λ t. get_or t (m - 1) []) (get_or-set_same s.rows r (set (row_at s r) (n - 1) x) [] low)
    ∙ get_or-set_other (row_at s r) (n - 1) (m - 1) x [] (λ i. ne (e, omega arith)))))
    (λ past. ap (λ t. string_at (record { width = s.width; limit = s.limit; rows = t }) q m) (set_past s.rows r (set (row_at s r) (n - 1) x) past))
    (cases_lt r (length s.rows)))
    (λ no_r. string_row_other s r (set (row_at s r) (n - 1) x) q m no_r)
    (cases_eq q r)

-- no string put where none is held
pub string_put_none : (s : Contents) (r n : ℕ) → in_bounds r n ≡ true → length (string_at s r n) ≡ 0 → with_string s r n [] ≡ s
string_put_none s r n h z =
    let none : get_or (row_at s r) (n - 1) [] ≡ [] = nil_from_length (get_or (row_at s r) (n - 1) []) (sym (ap length (string_in s r n h)) ∙ z) in
    ap (λ rows. record { width = s.width; limit = s.limit; rows = rows })
    (ap (λ x. set s.rows r (set (row_at s r) (n - 1) x)) (sym none)
    ∙ ap (set s.rows r) (set-get_or (row_at s r) (n - 1) [])
    ∙ set-get_or s.rows r [])

-- a row freed
pub string_free_same : (s : Contents) (r n : ℕ) → string_at (with_row s r vacant) r n ≡ []
string_free_same s r n =
    ⊎_elim
    (λ h. string_in (with_row s r vacant) r n h
    ∙ ⊎_elim
    (λ low. ap (λ t. get_or t (n - 1) []) (get_or-set_same s.rows r vacant [] low) ∙ get_d_vacant (n - 1))
    (λ past. ap (λ t. get_or (get_or t r []) (n - 1) []) (set_past s.rows r vacant past) ∙ ap (λ t. get_or t (n - 1) []) (get_or_past s.rows r [] past))
    (cases_lt r (length s.rows)))
    (λ h. string_out (with_row s r vacant) r n h)
    (cases_Bool (in_bounds r n))

-- nothing held
pub string_empty : (w l r n : ℕ) → string_at (empty_store w l) r n ≡ []
string_empty w l r n =
    ⊎_elim
    (λ h. string_in (empty_store w l) r n h ∙ ap (λ t. get_or t (n - 1) []) (get_d_vacants r [] (in_bounds_are r n h).0) ∙ get_d_vacant (n - 1))
    (λ h. string_out (empty_store w l) r n h)
    (cases_Bool (in_bounds r n))
