-- Walks over a sound set: the next number, what lies between two, the rising list.
use Rattle.std.proofs.Common.{◌≡◌, ℕ, ◌+◌, ◌-◌, ◌<◌, ◌≤◌, List, [], ◌∷◌, ◌++◌, length, get_or, take, drop, set, IfSome, Some, None, Option, sym, ap, ◌∙◌, inl, inr, arith}
use Rattle.std.proofs.lemmas.List.{append_assoc, drop_more, length-drop, length-take-le, set_at, take_more}
use Rattle.std.proofs.lemmas.Bool.{both_ways, cases_lt}
use Rattle.bitmap.specs.Passing.{Next, rising_from}
use Rattle.bitmap.specs.Words.{holds}
use Rattle.bitmap.proofs.Counts.{length-rising, next_lowest, rising_end, rising_next}
use Rattle.bitmap.proofs.Words.{holds_above, holds_past}
use Rattle.protocol.specs.Limits.{most_numbers}
use Rattle.parts.specs.declared.numbers.Numbers.{Numbers}
use Rattle.parts.specs.Numbers.{Sound, has, next_from, rising}
use Rattle.parts.proofs.Sets.{has_bounds, has-holds, has_past, has_unheld, sound_count, sound_long}

-- ---- the next number

-- what is next is the lowest from there on
pub next_value : (s : Numbers) (n : ℕ) (o : Option ℕ) → Next (has s) n o → o ≡ next_from s n
next_value s n o h = next_lowest (has s) n (most_numbers + 1 - n) o (λ k l. has_past s k (omega arith)) h

pub next_number : (s : Numbers) (n : ℕ) (o : Option ℕ) → Next (has s) n o → IfSome o (λ m. (0 < m) × (m ≤ most_numbers))
next_number s n None h = tt
next_number s n (Some m) h = has_bounds s m h.1

-- from the words to the set
pub next_has : (s : Numbers) → Sound s → (n j : ℕ) → j ≡ n - 1 → (o : Option ℕ) → Next (holds s.words) (j + 1) o → Next (has s) n o
next_has s e n j d None h = λ k l. has_unheld s k (holds_above s.words k (λ a. h k (omega arith)))
next_has s e n j d (Some m) h =
    let small : m ≤ most_numbers =
    elim (cases_lt most_numbers m)
    [ inl l ↦ absurd (both_ways (holds s.words m) (holds_past s.words m (omega (arith, sound_long s e))) h.1) | inr l ↦ l ] in (
      omega (arith, h.0),
      has-holds s m (omega (arith, h.0)) small ∙ h.1,
      λ k l g. has_unheld s k (holds_above s.words k (λ a. h.2 k (omega arith) g)),
    )

-- ---- the rising list

-- one number more written to the front of a list
pub put_next : (rs old out rest : List ℕ) (d n : ℕ) → d < length old → d ≤ length rs → out ≡ take d rs ++ drop d old → drop d rs ≡ n ∷ rest
    → (set out d n ≡ take (d + 1) rs ++ drop (d + 1) old) × (drop (d + 1) rs ≡ rest) × (d + 1 ≤ length rs)
put_next rs old out rest d n l h e f =
    let long : d < length rs = omega (arith, length-drop d rs, ap length f) in
    let g : drop d rs ≡ get_or rs d 0 ∷ drop (d + 1) rs = drop_more rs d 0 long in
    let head : get_or rs d 0 ≡ n = cc in
    let t : take (d + 1) rs ≡ take d rs ++ n ∷ [] = take_more rs d 0 long ∙ ap (λ x. take d rs ++ x ∷ []) head in (
      ap (λ xs. set xs d n) (e ∙ ap (λ xs. take d rs ++ xs) (drop_more old d 0 l))
          ∙ set_at (take d rs) (get_or old d 0) (drop (d + 1) old) n d (length-take-le d rs h)
          ∙ sym (ap (λ xs. xs ++ drop (d + 1) old) t ∙ append_assoc (take d rs) (n ∷ []) (drop (d + 1) old)),
      cc,
      omega arith,
    )

pub rising_step : (s : Numbers) (a m : ℕ) → Next (has s) a (Some m)
    → rising_from (has s) a (most_numbers + 1 - a) ≡ m ∷ rising_from (has s) (m + 1) (most_numbers + 1 - (m + 1))
rising_step s a m h =
    let b = has_bounds s m h.1 in
    rising_next (has s) a (most_numbers + 1 - a) m (most_numbers + 1) (omega (arith, h.0, b.1)) h.0 (omega (arith, b.1)) h.1 h.2

pub rising-none : (s : Numbers) (a : ℕ) → Next (has s) a None → rising_from (has s) a (most_numbers + 1 - a) ≡ []
rising-none s a h = rising_end (has s) a (most_numbers + 1 - a) h

pub rising_count : (s : Numbers) → Sound s → length (rising s) ≡ s.count
rising_count s e = length-rising (has s) most_numbers ∙ sym (sound_count s e)

pub ruleset walks = (rising_step, rising-none)
