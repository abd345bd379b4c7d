-- A put, a free and making keep the shape of a store.
use Rattle.std.proofs.Common.{◌≡◌, ℕ, ◌-◌, ◌<◌, ◌≤◌, true, List, [], length, set, ap, ◌∙◌, ⊎_elim, arith}
use Rattle.std.proofs.lemmas.List.{get_or-set_other, get_or-set_same, length-set}
use Rattle.std.proofs.lemmas.Bool.{cases_eq}
use Rattle.protocol.specs.Limits.{most_numbers, row_count}
use Rattle.contents.specs.Contents.{Contents, Sound, empty_store, limit_fits, row_at, string_at, total, vacant, width_fits, with_row, with_string}
use Rattle.contents.proofs.Accepted.{PutAccepted}
use Rattle.contents.proofs.Bounds.{in_bounds_are, limit_are, width_are}
use Rattle.contents.proofs.Strings.{cases_place, string_empty, string_free_same, string_put_other, string_put_same, string_row_other}
use Rattle.contents.proofs.Totals.{total_free, total_put}
use Rattle.contents.proofs.Vacant.{get_d_vacants, length-vacant, length-vacants, total_empty}

-- one row changed, which keeps its numbers
row_sound : (s : Contents) (r : ℕ) (row : List (List ℕ)) → Sound s → r < row_count → length row ≡ most_numbers
    → ((q m : ℕ) → length (string_at (with_row s r row) q m) ≤ s.width) → total (with_row s r row) ≤ s.limit → Sound (with_row s r row)
row_sound s r row ok h l short low = record {
  rows_all = length-set s.rows r row ∙ ok.rows_all;
  numbers_all = λ q hq.
      ⊎_elim
      (λ e. rw e (ap length (get_or-set_same s.rows r row [] (omega (arith, ok.rows_all))) ∙ l))
      (λ ne. ap length (get_or-set_other s.rows r q row [] ne) ∙ ok.numbers_all q hq)
      (cases_eq q r);
  within = short;
  below = low;
  width_low = ok.width_low;
  width_high = ok.width_high;
  limit_low = ok.limit_low;
  limit_high = ok.limit_high;
}

pub put_sound : (s : Contents) (r n : ℕ) (x : List ℕ) → Sound s → PutAccepted s r n x → Sound (with_string s r n x)
put_sound s r n x ok a =
    let b = in_bounds_are r n a.bounds in
    let same : length (string_at (with_string s r n x) r n) ≤ s.width = omega (arith, ap length (string_put_same s r n x ok a.bounds), a.short) in
    let here : (q m : ℕ) → (q ≡ r) × (m ≡ n) → length (string_at (with_string s r n x) q m) ≤ s.width = λ q m u. rw (u.0, u.1) same in
    row_sound s r (set (row_at s r) (n - 1) x) ok b.0 (length-set (row_at s r) (n - 1) x ∙ ok.numbers_all r b.0)
    (λ q m. ⊎_elim (here q m)
    (λ ne. omega (arith, ap length (string_put_other s r n x q m a.bounds ne), ok.within q m))
    (cases_place q r m n))
    (omega (arith, total_put s r n x ok a.bounds a.none a.some, a.room, ok.below))

pub free_sound : (s : Contents) (r : ℕ) → Sound s → r < row_count → Sound (with_row s r vacant)
free_sound s r ok h =
    row_sound s r vacant ok h length-vacant
    (λ q m. ⊎_elim
    (λ e. rw e (omega (arith, ap length (string_free_same s r m))))
    (λ ne. omega (arith, ap length (string_row_other s r vacant q m ne), ok.within q m))
    (cases_eq q r))
    (omega (arith, total_free s r ok h, ok.below))

pub empty_sound : (w l : ℕ) → width_fits w ≡ true → limit_fits l ≡ true → Sound (empty_store w l)
empty_sound w l hw hl =
    let a = width_are w hw in
    let b = limit_are l hl in
    record {
      rows_all = length-vacants;
      numbers_all = λ r h. ap length (get_d_vacants r [] h) ∙ length-vacant;
      within = λ r n. omega (arith, ap length (string_empty w l r n));
      below = omega (arith, total_empty w l);
      width_low = a.0;
      width_high = a.1;
      limit_low = b.0;
      limit_high = b.1;
    }
