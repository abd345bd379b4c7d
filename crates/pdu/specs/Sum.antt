-- The Checksum of a PDU.
use Rattle.std.specs.Prelude.{ℕ, ◌+◌, ◌-◌, ◌*◌, ◌/◌, ◌%◌, cond, List, [], ◌∷◌, length, ◌==◌, slice_index, slice_set}

-- A carry out of the top of 16 bits is added at the bottom.
abbrev pub carried : ℕ → ℕ
carried s = s % 65536 + s / 65536

-- the one's complement sum of the big-endian words; an odd last octet is followed by 0
abbrev pub ones_sum : List ℕ → ℕ
ones_sum [] = 0
ones_sum (a ∷ []) = a * 256
ones_sum (a ∷ b ∷ xs) = carried (a * 256 + b + ones_sum xs)

-- the Checksum field, octets 6 and 7, taken as 0
abbrev pub blanked : List ℕ → List ℕ
blanked xs = slice_set (slice_set xs 6 0) 7 0

-- the complement of the sum
abbrev pub checksum_of : List ℕ → ℕ
checksum_of xs = 65535 - ones_sum (blanked xs)

-- the plain sum of the words, with no carry taken round
abbrev pub word_sum : List ℕ → ℕ
word_sum [] = 0
word_sum (a ∷ []) = a * 256
word_sum (a ∷ b ∷ xs) = a * 256 + b + word_sum xs

-- an odd last octet, followed by 0
abbrev pub odd_word : List ℕ → ℕ
odd_word xs = cond (length xs % 2 == 1) (slice_index xs (length xs - 1) * 256) 0
