-- What a search over words finds: the last word that is not 0 has the greatest number, and the first has the lowest.
use Rattle.std.proofs.Common.{◌≡◌, ℕ, ◌+◌, ◌-◌, ◌*◌, ◌/◌, ◌^◌, ◌<◌, ◌≤◌, List, length, get_or, None, Some, Option, sym, mod-eq_of_lt, inl, inr, arith}
use lib.Count.{count_leading_zeros, count_trailing_zeros}
use Rattle.std.proofs.lemmas.Bool.{cases_lt}
use Rattle.std.proofs.lemmas.List.{get_or_past}
use Rattle.bitmap.specs.Passing.{Next, greatest}
use Rattle.bitmap.specs.Words.{holds}
use Rattle.bitmap.proofs.Counts.{greatest_of}
use Rattle.bitmap.proofs.Words.{holds_zero, low_over, none_over, top_under}

module _ (ws : List ℕ) where
  -- all words are 0
  module _ (zero : (j : ℕ) → j < length ws → get_or ws j 0 ≡ 0) where
    word : (j : ℕ) → get_or ws j 0 ≡ 0
    word j = elim (cases_lt j (length ws)) [ inl l ↦ zero j l | inr l ↦ get_or_past ws j 0 l ]

    pub greatest-none : (n : ℕ) → 0 ≡ greatest (holds ws) n
    greatest-none n = greatest_of (holds ws) n 0 (omega arith) (λ h. absurd (let f : ⊥ = omega arith in f)) (λ k a b. holds_zero ws k (λ _. word ((k - 1) / 64)))

  module _ (i r : ℕ) (fits : get_or ws i 0 < 2 ^ 64) (some : 0 < get_or ws i 0) where
    pub greatest_found : i < length ws → ((j : ℕ) → i < j → j < length ws → get_or ws j 0 ≡ 0) → r ≡ i * 64 + (64 - count_leading_zeros 64 (get_or ws i 0))
        → r ≡ greatest (holds ws) (64 * length ws)
    greatest_found long zero e =
        let u = top_under ws i 64 (get_or ws i 0) (omega arith) (sym (mod-eq_of_lt fits)) some in
        let s : r ≡ 64 * i + (64 - count_leading_zeros 64 (get_or ws i 0)) = omega arith in
        rw s
        (greatest_of (holds ws) (64 * length ws) (64 * i + (64 - count_leading_zeros 64 (get_or ws i 0))) (omega (arith, u.1)) (λ _. u.2)
        (λ k a b. elim (cases_lt (64 * i + 64) k) [ inl l ↦ holds_zero ws k (λ _. zero ((k - 1) / 64) (omega arith) (omega arith)) | inr l ↦ u.3 k a l ]))

  -- the words from one on
  module _ (first : ℕ) where
    pub next-none : ((j : ℕ) → first ≤ j → get_or ws j 0 ≡ 0) → Next (holds ws) (64 * first + 1) None
    next-none zero k a = holds_zero ws k (λ _. zero ((k - 1) / 64) (omega arith))

    pub next_found : (i r : ℕ) → get_or ws i 0 < 2 ^ 64 → 0 < get_or ws i 0 → first ≤ i → ((j : ℕ) → first ≤ j → j < i → get_or ws j 0 ≡ 0)
        → r ≡ i * 64 + (1 + count_trailing_zeros 64 (get_or ws i 0)) → Next (holds ws) (64 * first + 1) (Some r)
    next_found i r fits some l zero e =
        let u = low_over ws i 0 (get_or ws i 0) (omega arith) fits (omega arith) some in
        let s : r ≡ 64 * i + 0 + 1 + count_trailing_zeros 64 (get_or ws i 0) = omega arith in
        rw s (omega arith, u.1, λ k a b. elim (cases_lt (64 * i) k) [ inl g ↦ u.2 k (omega arith) b | inr g ↦ holds_zero ws k (λ _. zero ((k - 1) / 64) (omega arith) (omega arith)) ])

  -- word j from bit s on has the next number, or the words behind it have
  module _ (j s m k : ℕ) (at : k ≡ 64 * j + s) (is : m ≡ get_or ws j 0 / 2 ^ s) where
    pub next_in : (r : ℕ) → get_or ws j 0 < 2 ^ 64 → s < 64 → 0 < m → r ≡ k + (1 + count_trailing_zeros 64 m) → Next (holds ws) (k + 1) (Some r)
    next_in r fits h p e =
        let u = low_over ws j s m is fits h p in
        let d : r ≡ 64 * j + s + 1 + count_trailing_zeros 64 m = omega arith in
        rw d (omega arith, u.1, λ n a b. u.2 n (omega arith) b)

    pub next_behind : (o : Option ℕ) → m ≡ 0 → s < 64 → Next (holds ws) (64 * (j + 1) + 1) o → Next (holds ws) (k + 1) o
    next_behind None z l h = λ n a. elim (cases_lt (64 * j + 64) n) [ inl g ↦ h n (omega arith) | inr g ↦ none_over ws j s m is z n (omega arith) g ]
    next_behind (Some r) z l h =
        (omega (arith, h.0), h.1, λ n a b. elim (cases_lt (64 * j + 64) n) [ inl g ↦ h.2 n (omega arith) b | inr g ↦ none_over ws j s m is z n (omega arith) g ])
