-- A store whose strings are given by place.
use Rattle.std.proofs.Common.{◌≡◌, ℕ, ◌+◌, ◌-◌, ◌*◌, ◌<◌, ◌≤◌, true, ◌≢◌, List, [], length, get_or, set, sym, ap, ◌∙◌, subst, ⊎_elim, arith}
use Rattle.std.proofs.lemmas.List.{get_or_default}
use Rattle.std.proofs.lemmas.Bool.{cases_Bool}
use Rattle.protocol.specs.Limits.{most_numbers, most_strings, row_count}
use Rattle.contents.specs.Contents.{Sound, empty_store, in_bounds, string_at, total, vacant, vacants, with_string}
use Rattle.contents.specs.Layout.{Sized, place_of, row_by, rows_by, store_by}
use Rattle.contents.proofs.Bounds.{in_bounds_are}
use Rattle.contents.proofs.Listed.{get_d_listed, length-listed, listed_is, listed_same, listed-set}
use Rattle.contents.proofs.Strings.{string_in, string_out}
use Rattle.contents.proofs.Totals.{total_most}
use Rattle.contents.proofs.Vacant.{get_d_vacant, get_d_vacants, length-vacant, length-vacants}

row_by_lem : (f : ℕ → List ℕ) (r : ℕ) → r < row_count → get_or (rows_by f) r [] ≡ row_by f r
unfolding rows_by
row_by_lem f r h = get_d_listed row_count (row_by f) r [] h

pub rows_by_lem : (f : ℕ → List ℕ) → length (rows_by f) ≡ row_count
unfolding rows_by
rows_by_lem f = length-listed row_count (row_by f)

pub numbers_by : (f : ℕ → List ℕ) (r : ℕ) → r < row_count → length (get_or (rows_by f) r []) ≡ most_numbers
unfolding row_by
numbers_by f r h = rw (row_by_lem f r h) (length-listed most_numbers (λ k. f (r * most_numbers + k)))

pub string_by_lem : (w l : ℕ) (f : ℕ → List ℕ) (r n : ℕ) → in_bounds r n ≡ true → string_at (store_by w l f) r n ≡ f (place_of r n)
unfolding row_by
string_by_lem w l f r n h =
    let b = in_bounds_are r n h in
    string_in (store_by w l f) r n h ∙ ap (λ t. get_or t (n - 1) []) (row_by_lem f r b.0) ∙ get_d_listed most_numbers (λ k. f (r * most_numbers + k)) (n - 1) [] (omega arith)

pub place_low : (r n : ℕ) → in_bounds r n ≡ true → place_of r n < most_strings
place_low r n h = let b = in_bounds_are r n h in omega arith

-- the string of one place changed
pub put_by : (w l : ℕ) (f g : ℕ → List ℕ) (r n p : ℕ) (x : List ℕ) → in_bounds r n ≡ true → p ≡ place_of r n → g p ≡ x → ((q : ℕ) → q ≢ p → g q ≡ f q)
    → store_by w l g ≡ with_string (store_by w l f) r n x
unfolding row_by rows_by
put_by w l f g r n p x h e same other =
    let b = in_bounds_are r n h in
    ap (λ rows. record { width = w; limit = l; rows = rows })
    (rw (row_by_lem f r b.0)
    (listed-set row_count (row_by f) (row_by g) r (set (row_by f r) (n - 1) x) b.0
    (listed-set most_numbers (λ k. f (r * most_numbers + k)) (λ k. g (r * most_numbers + k)) (n - 1) x (omega arith)
    (subst (λ (i : ℕ). g i ≡ x) e same)
    (λ k hk ne. other (r * most_numbers + k) (λ q. ne (omega arith))))
    (λ j hj ne. listed_same most_numbers (λ k. g (j * most_numbers + k)) (λ k. f (j * most_numbers + k)) (λ k hk. other (j * most_numbers + k) (λ q. ne (omega arith))))))

-- nothing at any place
pub empty_by : (w l : ℕ) (f : ℕ → List ℕ) → ((p : ℕ) → f p ≡ []) → store_by w l f ≡ empty_store w l
unfolding row_by rows_by
empty_by w l f none =
    ap (λ rows. record { width = w; limit = l; rows = rows })
    (listed_is row_count (row_by f) vacants length-vacants
    (λ r d h. listed_is most_numbers (λ k. f (r * most_numbers + k)) vacant length-vacant
    (λ k e m. none (r * most_numbers + k) ∙ sym (get_or_default vacant k e [] (omega (arith, length-vacant)) ∙ get_d_vacant k))
    ∙ sym (get_d_vacants r d h)))

pub total_by : (w l : ℕ) (f : ℕ → List ℕ) → total (store_by w l f) ≤ most_strings
total_by w l f = total_most (store_by w l f) (rows_by_lem f) (numbers_by f)

pub sound_by : (w l : ℕ) (f : ℕ → List ℕ) → Sized w l → ((p : ℕ) → length (f p) ≤ w) → total (store_by w l f) ≤ l
    → Sound (store_by w l f)
sound_by w l f sized short low = record {
  rows_all = rows_by_lem f;
  numbers_all = numbers_by f;
  within = λ r n.
      ⊎_elim
      (λ h. omega (arith, ap length (string_by_lem w l f r n h), short (place_of r n)))
      (λ h. omega (arith, ap length (string_out (store_by w l f) r n h)))
      (cases_Bool (in_bounds r n));
  below = low;
  width_low = sized.0;
  width_high = sized.1;
  limit_low = sized.2;
  limit_high = sized.3;
}
