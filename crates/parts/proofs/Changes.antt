-- One number put into a sound set, or taken out of it.
use Rattle.std.proofs.Common.{◌≡◌, ℕ, ◌+◌, ◌-◌, ◌<◌, ◌≤◌, max, true, false, cond, not, ◌&&◌, ◌||◌, eqb, ◌≢◌, List, length, sym, refl, ap, ◌∙◌, inl, inr, arith}
use Rattle.std.proofs.lemmas.Bool.{and_from, and_right, both_ways, cases_Bool, cases_eq, cases_lt, cond-false, cond-true, eq-eqb, ne_eqb, or_right}
use Rattle.bitmap.specs.Passing.{greatest}
use Rattle.bitmap.specs.Words.{Fitted, holds}
use Rattle.bitmap.proofs.Counts.{greatest_is, greatest_of, greatest_same, greatest_skip, tally_turn}
use Rattle.protocol.specs.Limits.{is_number, most_numbers, word_count}
use Rattle.parts.specs.declared.numbers.Numbers.{Numbers}
use Rattle.parts.specs.Numbers.{IsSetOf, Sound, excluding, has, including, set_of}
use Rattle.parts.proofs.Sets.{has_bounds, has-holds, is_set_of, number, set_of_is, set_of_same, sound_count, sound_small, sound_topped}

-- the tests at the number itself, and elsewhere
including_same : (s : Numbers) (n k : ℕ) → k ≡ n → including s n k ≡ true
including_same s n k e = or_right (has s k) (eqb k n) (eq-eqb k n e)

including_other : (s : Numbers) (n k : ℕ) → k ≢ n → including s n k ≡ has s k
including_other s n k ne = elim (has s k) as (λ b. (b || eqb k n) ≡ b) [ true ↦ refl | false ↦ ne_eqb k n ne ]

excluding_same : (s : Numbers) (n k : ℕ) → k ≡ n → excluding s n k ≡ false
excluding_same s n k e = and_right (has s k) (not (eqb k n)) (ap not (eq-eqb k n e))

excluding_other : (s : Numbers) (n k : ℕ) → k ≢ n → excluding s n k ≡ has s k
excluding_other s n k ne = elim (has s k) as (λ b. (b && not (eqb k n)) ≡ b) [ true ↦ ap not (ne_eqb k n ne) | false ↦ refl ]

-- words that are a set's with n turned over
abbrev pub Turned : Numbers → ℕ → List ℕ → Type 0
Turned s n ws = (m : ℕ) → holds ws m ≡ cond (eqb m n) (not (holds s.words m)) (holds s.words m)

turned_other : (s : Numbers) (n : ℕ) (ws : List ℕ) → Turned s n ws → (k : ℕ) → 0 < k → k ≤ most_numbers → k ≢ n → holds ws k ≡ has s k
turned_other s n ws t k a b ne = t k ∙ cond-false (eqb k n) (not (holds s.words k)) (holds s.words k) (ne_eqb k n ne) ∙ sym (has-holds s k a b)

turned_same : (s : Numbers) (n : ℕ) (ws : List ℕ) → Turned s n ws → 0 < n → n ≤ most_numbers → holds ws n ≡ not (has s n)
turned_same s n ws t a b = t n ∙ cond-true (eqb n n) (not (holds s.words n)) (holds s.words n) (eq-eqb n n refl) ∙ ap not (sym (has-holds s n a b))

module _ (s : Numbers) (e : Sound s) (n : ℕ) where
  below_top : has s n ≡ true → n ≤ s.top
  below_top h = elim (cases_lt s.top n) [ inl l ↦ absurd (both_ways (has s n) ((sound_topped s e).1 n l) h) | inr l ↦ l ]

  -- where n is in it already, or is no number
  module _ (h : (is_number n && not (has s n)) ≡ false) where
    in_it : is_number n ≡ true → has s n ≡ true
    in_it e = elim (cases_Bool (has s n)) [ inl t ↦ t | inr f ↦ absurd (both_ways (is_number n && not (has s n)) h (and_from (is_number n) (not (has s n)) e (ap not f))) ]

    pub with_kept : IsSetOf (including s n) s
    with_kept =
        is_set_of s (including s n)
        (e ∙ set_of_same (has s) (including s n)
        (λ k a b.
        elim (cases_eq k n) [
          | inl z ↦ (let y : has s k ≡ true = rw z (in_it (rw z at (number k a b))) in y ∙ sym (including_same s n k z))
          | inr ne ↦ sym (including_other s n k ne)
        ]))

    pub with_top : s.top ≡ cond (is_number n) (max s.top n) s.top
    with_top =
        elim (cases_Bool (is_number n)) [
          | inl t ↦ (let m : s.top ≡ max s.top n = omega (arith, below_top (in_it t)) in m ∙ sym (cond-true (is_number n) (max s.top n) s.top t))
          | inr f ↦ sym (cond-false (is_number n) (max s.top n) s.top f)
        ]

  pub with_new : 0 < n → n ≤ most_numbers → has s n ≡ false → (ws : List ℕ) (c t : ℕ) → length ws ≡ word_count → Fitted ws → Turned s n ws
      → c ≡ s.count + 1 → t ≡ max s.top n → ◌≡◌ {A = Numbers} (record { words = ws; count = c; top = t }) (set_of (including s n))
  with_new a b out ws c t long fits turns d f =
      set_of_is (including s n) ws c t long fits
      (λ k u v.
      elim (cases_eq k n) [
        | inl z ↦ rw z (turned_same s n ws turns a b ∙ ap not out ∙ sym (including_same s n n refl))
        | inr ne ↦ turned_other s n ws turns k u v ne ∙ sym (including_other s n k ne)
      ])
      (omega (arith, sound_count s e, tally_turn (has s) (including s n) n most_numbers a b out (including_same s n n refl) (λ k ne. sym (including_other s n k ne))))
      (greatest_of (including s n) most_numbers t (omega (arith, sound_small s e))
      (λ p. elim (cases_eq t n) [
        | inl z ↦ including_same s n t z
        | inr ne ↦ (let z : t ≡ s.top = omega arith in including_other s n t ne ∙ rw z ((sound_topped s e).0 (omega arith)))
      ])
      (λ k u v. including_other s n k (omega arith) ∙ (sound_topped s e).1 k (omega arith)))

  pub without-kept : has s n ≡ false → s ≡ set_of (excluding s n)
  without-kept out =
      e ∙ set_of_same (has s) (excluding s n)
      (λ k a b. elim (cases_eq k n) [ inl z ↦ rw z (out ∙ sym (excluding_same s n n refl)) | inr ne ↦ sym (excluding_other s n k ne) ])

  pub without_held : has s n ≡ false → IsSetOf (excluding s n) s
  without_held h = is_set_of s (excluding s n) (without-kept h)

  pub without_some : has s n ≡ true → 0 < s.count
  without_some h =
      let b = has_bounds s n h in
      omega (arith, sound_count s e, tally_turn (excluding s n) (has s) n most_numbers b.0 b.1 (excluding_same s n n refl) h (excluding_other s n))

  pub without_top : has s n ≡ false → s.top ≡ cond (eqb n s.top) (greatest (has s) (n - 1)) s.top
  without_top out =
      elim (cases_eq n s.top) [
        | inl z ↦
            (let q : s.top ≡ 0 = elim (cases_lt 0 s.top) [ inl a ↦ absurd (both_ways (has s n) out (rw z ((sound_topped s e).0 a))) | inr a ↦ omega arith ] in
            let g : s.top ≡ greatest (has s) (n - 1) = omega (arith, (greatest_is (has s) (n - 1)).0) in
            g ∙ sym (cond-true (eqb n s.top) (greatest (has s) (n - 1)) s.top (eq-eqb n s.top z)))
        | inr ne ↦ sym (cond-false (eqb n s.top) (greatest (has s) (n - 1)) s.top (ne_eqb n s.top ne))
      ]

  -- where n was the top and is taken out, the greatest that is left is the greatest that was below it
  turned_below : has s n ≡ true → n ≡ s.top → (ws : List ℕ) → Turned s n ws → greatest (holds ws) most_numbers ≡ greatest (has s) (n - 1)
  turned_below h z ws t =
      let b = has_bounds s n h in
      sym (greatest_skip (holds ws) (n - 1) most_numbers (omega (arith, b.1))
      (λ k u v.
      elim (cases_eq k n) [
        | inl y ↦ rw y (turned_same s n ws t b.0 b.1 ∙ ap not h)
        | inr ne ↦ turned_other s n ws t k (omega arith) v ne ∙ (sound_topped s e).1 k (omega arith)
      ]))
      ∙ greatest_same (holds ws) (has s) (n - 1) (λ k u v. turned_other s n ws t k u (omega (arith, b.1)) (omega arith))

  pub turned_top : has s n ≡ true → (ws : List ℕ) → Turned s n ws
      → cond (eqb n s.top) (greatest (holds ws) most_numbers) s.top ≡ cond (eqb n s.top) (greatest (has s) (n - 1)) s.top
  turned_top h ws t =
      elim (cases_eq n s.top) [
        | inl z ↦ ap (λ g. cond (eqb n s.top) g s.top) (turned_below h z ws t)
        | inr ne ↦ cond-false (eqb n s.top) (greatest (holds ws) most_numbers) s.top (ne_eqb n s.top ne) ∙ sym (cond-false (eqb n s.top) (greatest (has s) (n - 1)) s.top (ne_eqb n s.top ne))
      ]

  -- what is left has the greatest below n for its top where n was the top
  without-greatest : has s n ≡ true → (t : ℕ) → t ≡ cond (eqb n s.top) (greatest (has s) (n - 1)) s.top → t ≡ greatest (excluding s n) most_numbers
  without-greatest h t f =
      let b = has_bounds s n h in
      elim (cases_eq n s.top) [
        | inl z ↦
            (let g = greatest_is (has s) (n - 1) in
            let d : t ≡ greatest (has s) (n - 1) = f ∙ cond-true (eqb n s.top) (greatest (has s) (n - 1)) s.top (eq-eqb n s.top z) in
            greatest_of (excluding s n) most_numbers t (omega (arith, g.0, b.1))
            (λ p. excluding_other s n t (omega (arith, g.0, b.0)) ∙ rw d (g.1 (omega arith)))
            (λ k u v.
            elim (cases_eq k n) [
              | inl y ↦ excluding_same s n k y
              | inr ne ↦ excluding_other s n k ne ∙ elim (cases_lt k n) [ inl l ↦ g.2 k (omega arith) (omega arith) | inr l ↦ (sound_topped s e).1 k (omega arith) ]
            ]))
        | inr ne ↦
            (let d : t ≡ s.top = f ∙ cond-false (eqb n s.top) (greatest (has s) (n - 1)) s.top (ne_eqb n s.top ne) in
            greatest_of (excluding s n) most_numbers t (omega (arith, sound_small s e))
            (λ p. excluding_other s n t (omega arith) ∙ rw d ((sound_topped s e).0 (omega arith)))
            (λ k u v. excluding_other s n k (omega (arith, below_top h)) ∙ (sound_topped s e).1 k (omega arith)))
      ]

  pub without_new : has s n ≡ true → (ws : List ℕ) (c t : ℕ) → length ws ≡ word_count → Fitted ws → Turned s n ws
      → c + 1 ≡ s.count → t ≡ cond (eqb n s.top) (greatest (has s) (n - 1)) s.top
      → ◌≡◌ {A = Numbers} (record { words = ws; count = c; top = t }) (set_of (excluding s n))
  without_new h ws c t long fits turns d f =
      let b = has_bounds s n h in
      set_of_is (excluding s n) ws c t long fits
      (λ k u v.
      elim (cases_eq k n) [
        | inl z ↦ rw z (turned_same s n ws turns b.0 b.1 ∙ ap not h ∙ sym (excluding_same s n n refl))
        | inr ne ↦ turned_other s n ws turns k u v ne ∙ sym (excluding_other s n k ne)
      ])
      (omega (arith, sound_count s e, tally_turn (excluding s n) (has s) n most_numbers b.0 b.1 (excluding_same s n n refl) h (excluding_other s n)))
      (without-greatest h t f)
