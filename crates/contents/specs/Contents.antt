-- What a fragment store means: its width, its limit, and for each row the strings of the numbers from 1 on.
-- The empty string stands where nothing is held, since no held string is empty.
use Rattle.std.specs.Prelude.{◌≡◌, ℕ, ◌-◌, ◌<◌, ◌≤◌, Bool, cond, ◌&&◌, List, [], ◌++◌, length, drop, replicate, sum_by, count_by, nat_le, nat_lt, slice_index_or, slice_set}
use Rattle.protocol.specs.Limits.{is_number, least_width, most_numbers, most_strings, most_width, row_count}

pub record Contents : Type 0 where
  pub width : ℕ
  pub limit : ℕ
  pub rows : List (List (List ℕ))

-- the strings of a row that holds nothing
unfoldable pub vacant : List (List ℕ)
vacant = replicate most_numbers []

-- the rows of a store that holds nothing
unfoldable pub vacants : List (List (List ℕ))
vacants = replicate row_count vacant

-- a store that holds nothing
abbrev pub empty_store : (width limit : ℕ) → Contents
empty_store w l = record { width = w; limit = l; rows = vacants }

-- whether a store can have this width, this limit
abbrev pub width_fits : ℕ → Bool
width_fits w = nat_le least_width w && nat_le w most_width

abbrev pub limit_fits : ℕ → Bool
limit_fits l = nat_le 1 l && nat_le l most_strings

-- whether a store has a place for a row and a number
abbrev pub in_bounds : (row number : ℕ) → Bool
in_bounds r n = nat_lt r row_count && is_number n

abbrev pub row_at : Contents → ℕ → List (List ℕ)
row_at s r = slice_index_or s.rows r []

-- the string at a row and a number, empty where none is held
unfoldable pub string_at : Contents → (row number : ℕ) → List ℕ
string_at s r n = cond (in_bounds r n) (slice_index_or (row_at s r) (n - 1) []) []

abbrev pub nonempty : List ℕ → Bool
nonempty x = nat_lt 0 (length x)

abbrev pub is_held : Contents → (row number : ℕ) → Bool
is_held s r n = nonempty (string_at s r n)

-- whether the store takes strings like this one
abbrev pub fits : Contents → List ℕ → Bool
fits s x = nonempty x && nat_le (length x) s.width

-- how many strings a row holds
abbrev pub filled : List (List ℕ) → ℕ
filled row = count_by nonempty row

-- how many strings the store holds
unfoldable pub total : Contents → ℕ
total s = sum_by filled s.rows

-- the store with one row changed
abbrev pub with_row : Contents → ℕ → List (List ℕ) → Contents
with_row s r row = record { width = s.width; limit = s.limit; rows = slice_set s.rows r row }

-- the store with one string changed
abbrev pub with_string : Contents → (row number : ℕ) → List ℕ → Contents
with_string s r n x = with_row s r (slice_set (row_at s r) (n - 1) x)

-- a row without the strings of its first i numbers
unfoldable pub emptied : ℕ → List (List ℕ) → List (List ℕ)
emptied i row = replicate i [] ++ drop i row

-- the shape of every store
pub record Sound (s : Contents) : Type 0 where
  pub rows_all : length s.rows ≡ row_count
  pub numbers_all : (r : ℕ) → r < row_count → length (row_at s r) ≡ most_numbers
  pub within : (r n : ℕ) → length (string_at s r n) ≤ s.width
  pub below : total s ≤ s.limit
  pub width_low : least_width ≤ s.width
  pub width_high : s.width ≤ most_width
  pub limit_low : 1 ≤ s.limit
  pub limit_high : s.limit ≤ most_strings
