-- The plain value of a set of numbers, and what follows of a value that is one.
use Rattle.std.proofs.Common.{◌≡◌, ℕ, ◌+◌, ◌<◌, ◌≤◌, Bool, true, false, not, ◌&&◌, leb, List, length, sym, refl, ap, ◌∙◌, subst, inl, inr, arith}
use Rattle.std.proofs.lemmas.Bool.{and_from, and_left, and_parts, and_right, cases_Bool, le-leb, leb-true, lt-leb}
use Rattle.bitmap.specs.Passing.{Top, greatest, rising_from, tally}
use Rattle.bitmap.specs.Words.{Fitted, holds, words_of}
pub use Rattle.bitmap.proofs.Counts.{greatest_is, greatest_of, greatest_same, greatest_top, length-rising, next_lowest, rising_same, tally_le, tally-not, tally_same, tally_skip}
use Rattle.bitmap.proofs.Words.{holds_words_of, length_words_of, words_of_fits, words_of_is}
use Rattle.protocol.specs.Limits.{is_number, most_numbers, word_count}
use Rattle.parts.specs.declared.numbers.Numbers.{Numbers}
use Rattle.parts.specs.Numbers.{IsSetOf, Sound, has, rising, set_of}

-- ---- the numbers that may be in a set

pub number : (n : ℕ) → 0 < n → n ≤ most_numbers → is_number n ≡ true
number n a b = and_from (leb 1 n) (leb n most_numbers) (le-leb 1 n a) (le-leb n most_numbers b)

pub number_bounds : (n : ℕ) → is_number n ≡ true → (0 < n) × (n ≤ most_numbers)
number_bounds n h = let e = and_parts (leb 1 n) (leb n most_numbers) h in (leb-true 1 n e.0, leb-true n most_numbers e.1)

-- ---- membership

pub has-holds : (s : Numbers) (n : ℕ) → 0 < n → n ≤ most_numbers → has s n ≡ holds s.words n
unfolding has
has-holds s n a b = ap (λ t. t && holds s.words n) (number n a b)

pub held : (s : Numbers) (n : ℕ) → 0 < n → n ≤ most_numbers → holds s.words n ≡ has s n
held s n a b = sym (has-holds s n a b)

pub has-number : (s : Numbers) (n : ℕ) → has s n ≡ true → is_number n ≡ true
unfolding has
has-number s n h = (and_parts (is_number n) (holds s.words n) h).0

pub has_bounds : (s : Numbers) (n : ℕ) → has s n ≡ true → (0 < n) × (n ≤ most_numbers)
has_bounds s n h = number_bounds n (has-number s n h)

pub has_outside : (s : Numbers) (n : ℕ) → is_number n ≡ false → has s n ≡ false
unfolding has
has_outside s n h = and_left (is_number n) (holds s.words n) h

pub has_past : (s : Numbers) (n : ℕ) → most_numbers < n → has s n ≡ false
has_past s n h = has_outside s n (and_right (leb 1 n) (leb n most_numbers) (lt-leb n most_numbers h))

pub has_unheld : (s : Numbers) (n : ℕ) → holds s.words n ≡ false → has s n ≡ false
unfolding has
has_unheld s n h = and_right (is_number n) (holds s.words n) h

-- ---- the value of a test

-- tests that agree from 1 to the greatest number give the same set
pub set_of_same : (p q : ℕ → Bool) → ((k : ℕ) → 0 < k → k ≤ most_numbers → p k ≡ q k) → set_of p ≡ set_of q
unfolding set_of
set_of_same p q h =
    let w : words_of p word_count ≡ words_of q word_count =
    words_of_is (words_of p word_count) q word_count (length_words_of p word_count) (words_of_fits p word_count) (λ k a b. holds_words_of p word_count k a b ∙ h k a b) in
    let c : tally p most_numbers ≡ tally q most_numbers = tally_same p q most_numbers h in
    let t : greatest p most_numbers ≡ greatest q most_numbers = greatest_same p q most_numbers h in
    λ i. record { words = w i; count = c i; top = t i }

-- and sound words with the test's count and greatest number are its set
pub set_of_is : (p : ℕ → Bool) (ws : List ℕ) (c t : ℕ) → length ws ≡ word_count → Fitted ws → ((k : ℕ) → 0 < k → k ≤ most_numbers → holds ws k ≡ p k)
    → c ≡ tally p most_numbers → t ≡ greatest p most_numbers → ◌≡◌ {A = Numbers} (record { words = ws; count = c; top = t }) (set_of p)
unfolding set_of
set_of_is p ws c t l f h d e = let w = words_of_is ws p word_count l f h in λ i. record { words = w i; count = d i; top = e i }

pub set_of_count : (p : ℕ → Bool) → (set_of p).count ≡ tally p most_numbers
unfolding set_of
set_of_count p = refl

pub set_of_top : (p : ℕ → Bool) → (set_of p).top ≡ greatest p most_numbers
unfolding set_of
set_of_top p = refl

set_of_long : (p : ℕ → Bool) → length (set_of p).words ≡ word_count
unfolding set_of
set_of_long p = length_words_of p word_count

set_of-fits : (p : ℕ → Bool) → Fitted (set_of p).words
unfolding set_of
set_of-fits p = words_of_fits p word_count

set_of-holds : (p : ℕ → Bool) (n : ℕ) → 0 < n → n ≤ most_numbers → holds (set_of p).words n ≡ p n
unfolding set_of
set_of-holds p n = holds_words_of p word_count n

-- a set has the numbers that pass
pub set_of-has : (p : ℕ → Bool) (n : ℕ) → 0 < n → n ≤ most_numbers → has (set_of p) n ≡ p n
set_of-has p n a b = has-holds (set_of p) n a b ∙ set_of-holds p n a b

-- and no other
pub set_of_members : (p : ℕ → Bool) (n : ℕ) → has (set_of p) n ≡ (is_number n && p n)
set_of_members p n =
    elim (cases_Bool (is_number n)) [
      | inl e ↦ (let b = number_bounds n e in set_of-has p n b.0 b.1 ∙ sym (ap (λ t. t && p n) e))
      | inr e ↦ has_outside (set_of p) n e ∙ sym (ap (λ t. t && p n) e)
    ]

pub set_of_sound : (p : ℕ → Bool) → Sound (set_of p)
set_of_sound p = set_of_same p (has (set_of p)) (λ k a b. sym (set_of-has p k a b))

-- ---- of a value that is the set of a test

module _ (s : Numbers) (p : ℕ → Bool) (e : s ≡ set_of p) where
  pub sound_of : Sound s
  sound_of = subst Sound (sym e) (set_of_sound p)

  pub members_of : (k : ℕ) → has s k ≡ (is_number k && p k)
  members_of k = ap (λ t. has t k) e ∙ set_of_members p k

  pub count_of : s.count ≡ tally p most_numbers
  count_of = ap (λ t. t.count) e ∙ set_of_count p

  pub top_of : s.top ≡ greatest p most_numbers
  top_of = ap (λ t. t.top) e ∙ set_of_top p

  pub is_set_of : IsSetOf p s
  is_set_of = record { members = members_of; count = count_of; top = top_of; whole = e }

-- ---- of a sound set

pub record Kept (s : Numbers) : Type 0 where
  pub sound : Sound s
  pub counted : s.count ≡ tally (has s) most_numbers
  pub topped : s.top ≡ greatest (has s) most_numbers
  pub highest : Top (has s) s.top
  pub gaps : s.count + tally (λ k. not (has s k)) s.top ≡ s.top

module _ (s : Numbers) (e : Sound s) where
  pub sound_long : length s.words ≡ word_count
  sound_long = ap (λ (t : Numbers). length t.words) e ∙ set_of_long (has s)

  pub sound_fits : Fitted s.words
  sound_fits = subst (λ (t : Numbers). Fitted t.words) (sym e) (set_of-fits (has s))

  pub sound_count : s.count ≡ tally (has s) most_numbers
  sound_count = count_of s (has s) e

  pub sound_top : s.top ≡ greatest (has s) most_numbers
  sound_top = top_of s (has s) e

  -- nothing above the top, and the top itself unless it is 0
  pub sound_topped : Top (has s) s.top
  sound_topped = subst (Top (has s)) (sym sound_top) (greatest_top (has s) most_numbers (has_past s))

  pub sound_small : s.top ≤ most_numbers
  sound_small = omega (arith, sound_top, (greatest_is (has s) most_numbers).0)

  -- what is in the set and what it lacks below its top make the top
  pub sound_gaps : s.count + tally (λ k. not (has s k)) s.top ≡ s.top
  sound_gaps = omega (arith, sound_count, tally_skip (has s) s.top most_numbers sound_small (λ k a b. sound_topped.1 k a), tally-not (has s) s.top)

  -- all that a set with its invariant keeps
  pub sound_kept : Kept s
  sound_kept = record { sound = e; counted = sound_count; topped = sound_top; highest = sound_topped; gaps = sound_gaps }

-- sound sets with the same members are the same value
pub sound_same : (s t : Numbers) → Sound s → Sound t → ((k : ℕ) → 0 < k → k ≤ most_numbers → has s k ≡ has t k) → s ≡ t
sound_same s t d e h = d ∙ set_of_same (has s) (has t) h ∙ sym e

-- the rising list of the set of a test
pub rising-set_of : (p : ℕ → Bool) → rising (set_of p) ≡ rising_from p 1 most_numbers
rising-set_of p = rising_same (has (set_of p)) p 1 most_numbers (λ k a b. set_of-has p k a (omega arith))
