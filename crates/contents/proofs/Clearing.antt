-- A row emptied number by number.
use Rattle.std.proofs.Common.{◌≡◌, ℕ, ◌+◌, ◌-◌, ◌<◌, ◌≤◌, List, [], ◌∷◌, ◌++◌, length, get_or, drop, set, replicate, sym, ap, ◌∙◌, ap₂, arith}
use Rattle.std.proofs.lemmas.List.{append_assoc, append-nil, drop_all, drop_more, get_or-set_same, length-replicate, replicate_more, set_at, set-get_or, set-set}
use Rattle.protocol.specs.Limits.{most_numbers, row_count}
use Rattle.contents.specs.Contents.{Contents, Sound, emptied, row_at, vacant, with_row, with_string}

emptied_more : (row : List (List ℕ)) (i : ℕ) → i < length row → set (emptied i row) i [] ≡ emptied (i + 1) row
unfolding emptied
emptied_more row i h =
    ap (λ t. set (replicate {A = List ℕ} i [] ++ t) i []) (drop_more row i [] h)
    ∙ set_at (replicate {A = List ℕ} i []) (get_or row i []) (drop (i + 1) row) [] i (length-replicate {A = List ℕ} i [])
    ∙ sym (append_assoc (replicate {A = List ℕ} i []) ([] ∷ []) (drop (i + 1) row))
    ∙ ap (λ t. t ++ drop (i + 1) row) (replicate_more {X = List ℕ} i [])

pub cleared_none : (s : Contents) (r : ℕ) → with_row s r (emptied 0 (row_at s r)) ≡ s
unfolding emptied
cleared_none s r = ap (λ rows. record { width = s.width; limit = s.limit; rows = rows }) (set-get_or s.rows r [])

pub cleared_more : (s : Contents) (r i : ℕ) → Sound s → r < row_count → i < most_numbers
    → with_string (with_row s r (emptied i (row_at s r))) r (i + 1) [] ≡ with_row s r (emptied (i + 1) (row_at s r))
cleared_more s r i ok hr hi =
    let l = ok.numbers_all r hr in
    let a : get_or (set s.rows r (emptied i (row_at s r))) r [] ≡ emptied i (row_at s r) =
    get_or-set_same s.rows r (emptied i (row_at s r)) [] (omega (arith, ok.rows_all)) in
    let j : i + 1 - 1 ≡ i = omega arith in
    ap (λ rows. record { width = s.width; limit = s.limit; rows = rows })
    (ap (λ t. set (set s.rows r (emptied i (row_at s r))) r t) (ap₂ (λ (t : List (List ℕ)) (m : ℕ). set t m []) a j ∙ emptied_more (row_at s r) i (omega arith))
    ∙ set-set s.rows r (emptied i (row_at s r)) (emptied (i + 1) (row_at s r)))

pub cleared_all : (s : Contents) (r i : ℕ) → Sound s → r < row_count → i ≡ most_numbers → with_row s r (emptied i (row_at s r)) ≡ with_row s r vacant
unfolding emptied vacant
cleared_all s r i ok hr e =
    ap (with_row s r)
    (ap (λ (m : ℕ). emptied m (row_at s r)) e
    ∙ ap (λ t. replicate {A = List ℕ} most_numbers [] ++ t) (drop_all most_numbers (row_at s r) (omega (arith, ok.numbers_all r hr)))
    ∙ append-nil (replicate {A = List ℕ} most_numbers []))

-- the same for the number n, which comes after those below it
pub cleared_number : (s : Contents) (r n : ℕ) → Sound s → r < row_count → 1 ≤ n → n ≤ most_numbers
    → with_string (with_row s r (emptied (n - 1) (row_at s r))) r n [] ≡ with_row s r (emptied (n + 1 - 1) (row_at s r))
cleared_number s r n ok hr low high =
    let a : n - 1 + 1 ≡ n = omega arith in
    let b : n - 1 + 1 ≡ n + 1 - 1 = omega arith in
    ap (λ (m : ℕ). with_string (with_row s r (emptied (n - 1) (row_at s r))) r m []) (sym a)
    ∙ cleared_more s r (n - 1) ok hr (omega arith)
    ∙ ap (λ (m : ℕ). with_row s r (emptied m (row_at s r))) b
