-- What follows from a test: counts, the greatest, the lowest and the list of those that pass.
use Rattle.std.proofs.Common.{◌≡◌, ℕ, zero, suc, ◌+◌, ◌-◌, ◌<◌, ◌≤◌, min, Bool, true, false, cond, not, leb, ◌≢◌, List, [], ◌∷◌, length, Some, None, Option, sym, refl, ap, ◌∙◌, subst, ap₂, inl, inr, add-zero, zero-add, add-one, arith}
use Rattle.std.proofs.lemmas.Bool.{both_ways, cases_Bool, cases_eq, cases_lt, cond-false, cond-true, le-leb, lt-leb}
use Rattle.bitmap.specs.Passing.{Next, Top, cons_if, greatest, lowest_from, rising_from, tally}

-- ---- how many pass

pub tally-none : (p : ℕ → Bool) → tally p 0 ≡ 0
unfolding tally
tally-none p = refl

pub tally_more : (p : ℕ → Bool) (n : ℕ) → tally p (n + 1) ≡ tally p n + cond (p (n + 1)) 1 0
unfolding tally
tally_more p n = rw add-one refl

pub tally_le : (p : ℕ → Bool) (n : ℕ) → tally p n ≤ n
unfolding tally
tally_le p zero = omega arith
tally_le p (suc n) =
    elim (p (suc n)) as (λ b. tally p n + cond b 1 0 ≤ suc n)
    [ true ↦ omega (arith, tally_le p n) | false ↦ omega (arith, tally_le p n) ]

-- tests that agree from 1 to n count alike
pub tally_same : (p q : ℕ → Bool) (n : ℕ) → ((k : ℕ) → 0 < k → k ≤ n → p k ≡ q k) → tally p n ≡ tally q n
unfolding tally
tally_same p q zero h = refl
tally_same p q (suc n) h =
    ap₂ (λ (x : ℕ) (b : Bool). x + cond b 1 0) (tally_same p q n (λ k a b. h k a (omega arith))) (h (suc n) (omega arith) (omega arith))

-- tests that agree but for m, where q alone passes, count one apart
pub tally_turn : (p q : ℕ → Bool) (m n : ℕ) → 0 < m → m ≤ n → p m ≡ false → q m ≡ true
    → ((k : ℕ) → k ≢ m → p k ≡ q k) → tally q n ≡ tally p n + 1
unfolding tally
tally_turn p q m zero a b c d h = let f : ⊥ = omega arith in absurd f
tally_turn p q m (suc n) a b c d h =
    elim (cases_eq m (suc n)) [
      | inl e ↦
          (let s = tally_same p q n (λ k x y. h k (λ z. omega arith)) in
          let cp : p (suc n) ≡ false = subst (λ (x : ℕ). p x ≡ false) e c in
          let cq : q (suc n) ≡ true = subst (λ (x : ℕ). q x ≡ true) e d in
          rw (cp, cq) (omega arith))
      | inr e ↦
          (let s = tally_turn p q m n a (omega arith) c d h in
          let t = h (suc n) (λ z. e (sym z)) in
          rw t (omega arith))
    ]

-- numbers past i that fail leave the count to i
pub tally_skip : (p : ℕ → Bool) (i n : ℕ) → i ≤ n → ((k : ℕ) → i < k → k ≤ n → p k ≡ false) → tally p n ≡ tally p i
unfolding tally
tally_skip p i zero l h = let e : i ≡ 0 = omega arith in rw e refl
tally_skip p i (suc n) l h =
    elim (cases_eq i (suc n)) [
      | inl e ↦ rw e refl
      | inr ne ↦ rw (h (suc n) (omega arith) (omega arith)) (omega (arith, tally_skip p i n (omega arith) (λ k a b. h k a (omega arith))))
    ]

-- what passes and what fails make all
pub tally-not : (p : ℕ → Bool) (n : ℕ) → tally p n + tally (λ k. not (p k)) n ≡ n
unfolding tally
tally-not p zero = refl
tally-not p (suc n) =
    elim (p (suc n)) as (λ b. tally p n + cond b 1 0 + (tally (λ k. not (p k)) n + cond (not b) 1 0) ≡ suc n)
    [ true ↦ omega (arith, tally-not p n) | false ↦ omega (arith, tally-not p n) ]

pub tally_up_to : (t n : ℕ) → tally (λ k. leb k t) n ≡ min t n
unfolding tally
tally_up_to t zero = omega arith
tally_up_to t (suc n) =
    elim (cases_lt n t) [
      | inl h ↦ rw (le-leb (suc n) t h) (omega (arith, tally_up_to t n))
      | inr h ↦ rw (lt-leb (suc n) t (omega arith)) (omega (arith, tally_up_to t n))
    ]

-- ---- the greatest

pub greatest_of : (p : ℕ → Bool) (n t : ℕ) → t ≤ n → (0 < t → p t ≡ true) → ((k : ℕ) → t < k → k ≤ n → p k ≡ false) → t ≡ greatest p n
unfolding greatest
greatest_of p zero t l m a = omega arith
greatest_of p (suc n) t l m a =
    elim (cases_eq t (suc n)) [
      | inl e ↦ e ∙ sym (cond-true (p (suc n)) (suc n) (greatest p n) (subst (λ (x : ℕ). p x ≡ true) e (m (omega arith))))
      | inr ne ↦
          greatest_of p n t (omega arith) m (λ k g h. a k g (omega arith))
          ∙ sym (cond-false (p (suc n)) (suc n) (greatest p n) (a (suc n) (omega arith) (omega arith)))
    ]

abbrev pub Great : (ℕ → Bool) → ℕ → ℕ → Type 0
Great p n t = (t ≤ n) × (0 < t → p t ≡ true) × ((k : ℕ) → t < k → k ≤ n → p k ≡ false)

pub greatest_is : (p : ℕ → Bool) (n : ℕ) → Great p n (greatest p n)
unfolding greatest
greatest_is p zero = (omega arith, (λ h. absurd (let f : ⊥ = omega arith in f)), λ k a b. absurd (let f : ⊥ = omega arith in f))
greatest_is p (suc n) =
    let ih = greatest_is p n in
    elim (cases_Bool (p (suc n))) [
      | inl e ↦
          subst (Great p (suc n)) (sym (cond-true (p (suc n)) (suc n) (greatest p n) e))
          (omega arith, (λ _. e), λ k a b. absurd (let f : ⊥ = omega arith in f))
      | inr e ↦
          subst (Great p (suc n)) (sym (cond-false (p (suc n)) (suc n) (greatest p n) e))
          (omega (arith, ih.0), ih.1, λ k a b. elim (cases_eq k (suc n)) [ inl z ↦ rw z e | inr ne ↦ ih.2 k a (omega arith) ])
    ]

pub greatest_same : (p q : ℕ → Bool) (n : ℕ) → ((k : ℕ) → 0 < k → k ≤ n → p k ≡ q k) → greatest p n ≡ greatest q n
greatest_same p q n h =
    let g = greatest_is p n in
    greatest_of q n (greatest p n) g.0 (λ z. sym (h (greatest p n) z g.0) ∙ g.1 z) (λ k a b. sym (h k (omega arith) b) ∙ g.2 k a b)

-- numbers past i that fail leave the greatest to i
pub greatest_skip : (p : ℕ → Bool) (i n : ℕ) → i ≤ n → ((k : ℕ) → i < k → k ≤ n → p k ≡ false) → greatest p i ≡ greatest p n
greatest_skip p i n l h =
    let g = greatest_is p i in
    greatest_of p n (greatest p i) (omega (arith, g.0)) g.1 (λ k a b. elim (cases_lt i k) [ inl c ↦ h k c b | inr c ↦ g.2 k a c ])

pub greatest_up_to : (t n : ℕ) → greatest (λ k. leb k t) n ≡ min t n
greatest_up_to t n = sym (greatest_of (λ k. leb k t) n (min t n) (omega arith) (λ _. le-leb (min t n) t (omega arith)) (λ k a b. lt-leb k t (omega arith)))

pub greatest_top : (p : ℕ → Bool) (n : ℕ) → ((k : ℕ) → n < k → p k ≡ false) → Top p (greatest p n)
greatest_top p n past =
    let g = greatest_is p n in
    (g.1, λ k a. elim (cases_lt n k) [ inl l ↦ past k l | inr l ↦ g.2 k a l ])

-- ---- the lowest

-- none of n numbers from a on
lowest-none : (p : ℕ → Bool) (a n : ℕ) → ((k : ℕ) → a ≤ k → p k ≡ false) → None ≡ lowest_from p a n
unfolding lowest_from
lowest-none p a zero h = refl
lowest-none p a (suc n) h = rw (h a (omega arith)) (lowest-none p (a + 1) n (λ k l. h k (omega arith)))

lowest_some : (p : ℕ → Bool) (a n m : ℕ) → a ≤ m → m < a + n → p m ≡ true → ((k : ℕ) → a ≤ k → k < m → p k ≡ false) → Some m ≡ lowest_from p a n
unfolding lowest_from
lowest_some p a zero m l g y h = absurd (let f : ⊥ = omega arith in f)
lowest_some p a (suc n) m l g y h =
    elim (cases_eq a m) [
      | inl e ↦ (let z : p a ≡ true = rw e y in rw (z, e) refl)
      | inr ne ↦ rw (h a (omega arith) (omega arith)) (lowest_some p (a + 1) n m (omega arith) (omega arith) y (λ k u v. h k (omega arith) v))
    ]

-- What comes next from a on is the lowest of the n numbers from there, where none past these passes.
pub next_lowest : (p : ℕ → Bool) (a n : ℕ) (o : Option ℕ) → ((k : ℕ) → a + n ≤ k → p k ≡ false) → Next p a o → o ≡ lowest_from p a n
next_lowest p a n None past h = lowest-none p a n h
next_lowest p a n (Some m) past h =
    elim (cases_lt m (a + n)) [
      | inl l ↦ lowest_some p a n m h.0 l h.1 h.2
      | inr l ↦ absurd (both_ways (p m) (past m l) h.1)
    ]

-- ---- the rising list

pub rising_end : (p : ℕ → Bool) (a n : ℕ) → ((k : ℕ) → a ≤ k → p k ≡ false) → rising_from p a n ≡ []
unfolding rising_from
rising_end p a zero h = refl
rising_end p a (suc n) h = rw (h a (omega arith)) (rising_end p (a + 1) n (λ k l. h k (omega arith)))

-- m is the first that passes of the numbers from a below b
pub rising_next : (p : ℕ → Bool) (a n m b : ℕ) → a + n ≡ b → a ≤ m → m < b → p m ≡ true → ((k : ℕ) → a ≤ k → k < m → p k ≡ false)
    → rising_from p a n ≡ m ∷ rising_from p (m + 1) (b - (m + 1))
unfolding rising_from
rising_next p a zero m b e l g y h = absurd (let f : ⊥ = omega arith in f)
rising_next p a (suc n) m b e l g y h =
    elim (cases_eq a m) [
      | inl z ↦ (let t : p a ≡ true = rw z y in let d : n ≡ b - (m + 1) = omega arith in rw (t, z, d) refl)
      | inr ne ↦ rw (h a (omega arith) (omega arith)) (rising_next p (a + 1) n m b (omega arith) (omega arith) g y (λ k u v. h k (omega arith) v))
    ]

length-cons_if : (b : Bool) (x : ℕ) (xs : List ℕ) → length (cons_if b x xs) ≡ length xs + cond b 1 0
length-cons_if true x xs = omega arith
length-cons_if false x xs = omega arith

rising-length_from : (p : ℕ → Bool) (a n : ℕ) → length (rising_from p (a + 1) n) + tally p a ≡ tally p (a + n)
unfolding rising_from
rising-length_from p a zero = zero-add (tally p a) ∙ ap (tally p) (sym (add-zero a))
rising-length_from p a (suc n) =
    let e : a + suc n ≡ a + 1 + n = omega arith in
    rw (e, length-cons_if (p (a + 1)) (a + 1) (rising_from p (a + 1 + 1) n)) (omega (arith, rising-length_from p (a + 1) n, tally_more p a))

pub length-rising : (p : ℕ → Bool) (n : ℕ) → length (rising_from p 1 n) ≡ tally p n
length-rising p n = omega (arith, rising-length_from p 0 n, ap (tally p) (zero-add n), tally-none p)

pub rising_same : (p q : ℕ → Bool) (a n : ℕ) → ((k : ℕ) → a ≤ k → k < a + n → p k ≡ q k) → rising_from p a n ≡ rising_from q a n
unfolding rising_from
rising_same p q a zero h = refl
rising_same p q a (suc n) h =
    ap₂ (λ (b : Bool) (xs : List ℕ). cons_if b a xs) (h a (omega arith) (omega arith)) (rising_same p q (a + 1) n (λ k l g. h k (omega arith) (omega arith)))
