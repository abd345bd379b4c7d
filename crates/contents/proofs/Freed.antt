-- Rows freed one after another, from the first on.
use Rattle.std.proofs.Common.{◌≡◌, ℕ, zero, suc, ◌+◌, ◌<◌, ◌≤◌, List, length, get_or, sym, refl, ap, ◌∙◌, ⊎_elim, add-one, arith}
use Rattle.std.proofs.lemmas.List.{get_or-set_other, get_or-set_same, length-set, same_lists}
use Rattle.std.proofs.lemmas.Bool.{cases_eq}
use Rattle.protocol.specs.Limits.{row_count}
use Rattle.contents.specs.Contents.{Contents, Sound, empty_store, vacant, vacants, with_row}
use Rattle.contents.proofs.Vacant.{get_d_vacants, length-vacants}

-- the store with its rows below i freed
abbrev pub freed_below : Contents → ℕ → Contents
freed_below s zero = s
freed_below s (suc i) = with_row (freed_below s i) i vacant

pub freed_more : (s : Contents) (i : ℕ) → freed_below s (i + 1) ≡ with_row (freed_below s i) i vacant
freed_more s i = rw add-one

length-freed : (s : Contents) (i : ℕ) → length (freed_below s i).rows ≡ length s.rows
length-freed s zero = refl
length-freed s (suc i) = length-set (freed_below s i).rows i vacant ∙ length-freed s i

get_d_freed : (s : Contents) (i k : ℕ) (d : List (List ℕ)) → k < i → i ≤ length s.rows → get_or (freed_below s i).rows k d ≡ vacant
get_d_freed s zero k d h l = absurd (omega arith)
get_d_freed s (suc i) k d h l =
    ⊎_elim
    (λ e. rw e (get_or-set_same (freed_below s i).rows i vacant d (omega (arith, length-freed s i))))
    (λ ne. get_or-set_other (freed_below s i).rows i k vacant d ne ∙ get_d_freed s i k d (omega arith) (omega arith))
    (cases_eq k i)

rows-kept : (s : Contents) (i : ℕ) → freed_below s i ≡ record { width = s.width; limit = s.limit; rows = (freed_below s i).rows }
rows-kept s zero = refl
rows-kept s (suc i) = ap (λ (t : Contents). with_row t i vacant) (rows-kept s i)

pub freed_all : (s : Contents) → Sound s → freed_below s row_count ≡ empty_store s.width s.limit
freed_all s ok =
    rows-kept s row_count
    ∙ ap (λ rows. record { width = s.width; limit = s.limit; rows = rows })
    (same_lists (freed_below s row_count).rows vacants (length-freed s row_count ∙ (ok.rows_all ∙ sym length-vacants))
    (λ k d h. let m : k < row_count = omega (arith, length-freed s row_count, ok.rows_all) in
    get_d_freed s row_count k d m (omega (arith, ok.rows_all)) ∙ sym (get_d_vacants k d m)))
