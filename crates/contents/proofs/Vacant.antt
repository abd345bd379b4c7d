-- A row and a store that hold nothing.
use Rattle.std.proofs.Common.{◌≡◌, ℕ, ◌<◌, cond, List, [], length, get_or, replicate, ◌∙◌, ⊎_elim, arith}
use Rattle.std.proofs.lemmas.List.{get_or_past, get_or-replicate, length-replicate}
use Rattle.std.proofs.lemmas.List.Folds.{sum_by-replicate}
use Rattle.std.proofs.lemmas.Bool.{cases_lt}
use Rattle.protocol.specs.Limits.{most_numbers, row_count}
use Rattle.contents.specs.Contents.{empty_store, filled, nonempty, total, vacant, vacants}

pub length-vacant : length vacant ≡ most_numbers
unfolding vacant
length-vacant = length-replicate {A = List ℕ} most_numbers []

pub get_d_vacant : (k : ℕ) → get_or vacant k [] ≡ []
unfolding vacant
get_d_vacant k =
    ⊎_elim (λ h. get_or-replicate {A = List ℕ} most_numbers k [] [] h)
    (λ h. get_or_past (replicate {A = List ℕ} most_numbers []) k [] (rw (length-replicate {A = List ℕ} most_numbers []) h))
    (cases_lt k most_numbers)

pub filled-vacant : filled vacant ≡ 0
unfolding vacant
filled-vacant = sum_by-replicate (λ x. cond (nonempty x) 1 0) most_numbers []

pub length-vacants : length vacants ≡ row_count
unfolding vacants
length-vacants = length-replicate {A = List (List ℕ)} row_count vacant

pub get_d_vacants : (k : ℕ) (d : List (List ℕ)) → k < row_count → get_or vacants k d ≡ vacant
unfolding vacants
get_d_vacants k d h = get_or-replicate {A = List (List ℕ)} row_count k vacant d h

pub total_empty : (w l : ℕ) → total (empty_store w l) ≡ 0
unfolding vacants total
total_empty w l = sum_by-replicate filled row_count vacant ∙ omega (arith, filled-vacant)
