-- Words of 64 bits that hold numbers from 1 on: number n is bit (n - 1) % 64 of word (n - 1) / 64.
use Rattle.std.specs.Prelude.{ℕ, zero, suc, ◌+◌, ◌*◌, ◌/◌, ◌%◌, ◌^◌, ◌<◌, Bool, false, cond, List, map, ◌==◌, slice_index}
use Rattle.std.specs.List.{range_with_len}

-- bit b of a word
abbrev pub bit_of : ℕ → ℕ → Bool
bit_of w b = w / 2 ^ b % 2 == 1

-- whether the words hold a number
unfoldable pub holds : List ℕ → ℕ → Bool
holds ws zero = false
holds ws (suc k) = bit_of (slice_index ws (k / 64)) (k % 64)

-- each word has 64 bits
abbrev pub Fitted : List ℕ → Type 0
Fitted ws = (j : ℕ) → slice_index ws j < 2 ^ 64

-- the word of those that pass, of the first n numbers above a
unfoldable pub word_of : (ℕ → Bool) → ℕ → ℕ → ℕ
word_of p a zero = 0
word_of p a (suc n) = word_of p a n + cond (p (a + suc n)) (2 ^ n) 0

-- so many words, of the numbers that pass
unfoldable pub words_of : (ℕ → Bool) → ℕ → List ℕ
words_of p n = map (λ j. word_of p (64 * j) 64) (range_with_len 0 n)
