-- Big-endian numbers in a list of octets.
use Rattle.std.specs.Prelude.{ℕ, ◌+◌, ◌*◌, ◌/◌, ◌%◌, ◌<◌, List, [], ◌∷◌, slice_index}

-- every element is an octet
abbrev pub Octets : List ℕ → Type 0
Octets xs = (i : ℕ) → slice_index xs i < 256

-- the number of two octets at a place
abbrev pub word : List ℕ → ℕ → ℕ
word xs i = slice_index xs i * 256 + slice_index xs (i + 1)

-- the number of four octets at a place
abbrev pub quad : List ℕ → ℕ → ℕ
quad xs i = word xs i * 65536 + word xs (i + 2)

-- the numbers of two octets each that a list holds
abbrev pub words_of : List ℕ → List ℕ
words_of [] = []
words_of (a ∷ []) = []
words_of (a ∷ b ∷ xs) = (a * 256 + b) ∷ words_of xs

-- a number as two octets
abbrev pub two_octets : ℕ → List ℕ
two_octets n = n / 256 ∷ n % 256 ∷ []

-- a number as four octets
abbrev pub four_octets : ℕ → List ℕ
four_octets n = n / 16777216 ∷ n / 65536 % 256 ∷ n / 256 % 256 ∷ n % 256 ∷ []
