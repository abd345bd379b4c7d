-- Sets of fragment numbers as they lie in a table. A rule says which numbers are in a set by a test; `set_of` is the whole plain value of
-- that set, with its words, its true count and its top. So two sets of the same numbers are the same value.
use Rattle.std.specs.Prelude.{◌≡◌, ℕ, ◌+◌, ◌-◌, ◌<◌, ◌≤◌, Bool, not, ◌&&◌, ◌||◌, List, Option, ◌==◌, nat_le, nat_lt}
pub use Rattle.bitmap.specs.Passing.{Next, Top, greatest, lowest_from, rising_from, tally}
use Rattle.bitmap.specs.Words.{holds, words_of}
use Rattle.protocol.specs.Limits.{is_number, most_numbers, word_count}
use Rattle.parts.specs.declared.numbers.Numbers.{Numbers}

-- whether a number is in a set
unfoldable pub has : Numbers → ℕ → Bool
has s n = is_number n && holds s.words n

-- the set of the numbers that pass
unfoldable pub set_of : (ℕ → Bool) → Numbers
set_of p = record { words = words_of p word_count; count = tally p most_numbers; top = greatest p most_numbers }

-- a set whose words, count and top are those of its numbers
abbrev pub Sound : Numbers → Type 0
Sound s = s ≡ set_of (has s)

-- words that hold the numbers that pass
pub record Holding (p : ℕ → Bool) (ws : List ℕ) : Type 0 where
  pub at : (k : ℕ) → 0 < k → k ≤ most_numbers → holds ws k ≡ p k

-- The set of the numbers that pass: its members, its count and its top, and the whole of it.
pub record IsSetOf (p : ℕ → Bool) (s : Numbers) : Type 0 where
  pub members : (k : ℕ) → has s k ≡ (is_number k && p k)
  pub count : s.count ≡ tally p most_numbers
  pub top : s.top ≡ greatest p most_numbers
  pub whole : s ≡ set_of p

-- The numbers of a set, rising.
abbrev pub rising : Numbers → List ℕ
rising s = rising_from (has s) 1 most_numbers

-- the lowest number of a set from n on
abbrev pub next_from : Numbers → ℕ → Option ℕ
next_from s n = lowest_from (has s) n (most_numbers + 1 - n)

-- Tests of the sets that an operation yields.

-- 1 to total
abbrev pub up_to : ℕ → ℕ → Bool
up_to total = λ k. nat_le k total

-- no number: 1 to 0
abbrev pub none : ℕ → Bool
none = up_to 0

abbrev pub including : Numbers → ℕ → ℕ → Bool
including s n = λ k. has s k || k == n

abbrev pub excluding : Numbers → ℕ → ℕ → Bool
excluding s n = λ k. has s k && not (k == n)

-- the numbers of a set strictly between two numbers
abbrev pub within : Numbers → ℕ → ℕ → ℕ → Bool
within s a b = λ k. has s k && (nat_lt a k && nat_lt k b)

-- the numbers of 1 to total that a set lacks
abbrev pub lacking : Numbers → ℕ → ℕ → Bool
lacking s total = λ k. nat_le k total && not (has s k)

-- in both sets, in either, in the first and not in the second
abbrev pub common : Numbers → Numbers → ℕ → Bool
common s t = λ k. has s k && has t k

abbrev pub united : Numbers → Numbers → ℕ → Bool
united s t = λ k. has s k || has t k

abbrev pub without : Numbers → Numbers → ℕ → Bool
without s t = λ k. has s k && not (has t k)
