-- The lengths of strings by place: all 0, and one changed.
use Rattle.std.proofs.Common.{◌≡◌, ℕ, ◌≤◌, List, length, get_or, set, replicate, ⊎_elim, arith}
use Rattle.std.proofs.lemmas.List.{get_or_past, get_or-replicate, get_or-set_other, get_or-set_same, length-replicate, length-set}
use Rattle.std.proofs.lemmas.Bool.{cases_eq, cases_lt}
use Rattle.contents.specs.Layout.{Short}

pub zero_lengths : (n p : ℕ) (lens : List ℕ) → lens ≡ replicate n 0 → get_or lens p 0 ≡ 0
zero_lengths n p lens e =
    rw e (⊎_elim (λ h. get_or-replicate n p 0 0 h) (λ h. get_or_past (replicate {A = ℕ} n 0) p 0 (rw (length-replicate {A = ℕ} n 0) h)) (cases_lt p n))

pub set_short : (w : ℕ) (lens : List ℕ) (p n : ℕ) → Short w lens → n ≤ w → Short w (set lens p n)
set_short w lens p n short le q =
    ⊎_elim
    (λ e. rw e (⊎_elim
    (λ lt. omega (arith, get_or-set_same lens p n 0 lt))
    (λ past. omega (arith, get_or_past (set lens p n) p 0 (omega (arith, length-set lens p n))))
    (cases_lt p (length lens))))
    (λ ne. omega (arith, get_or-set_other lens p q n 0 ne, short q))
    (cases_eq q p)
