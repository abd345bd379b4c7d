-- How memory holds the strings of a store. Each row and number has a place, counted row by row; memory gives each place its string.
use Rattle.std.specs.Prelude.{ℕ, ◌+◌, ◌-◌, ◌*◌, ◌≤◌, List, map, take, drop, slice_index}
use Rattle.std.specs.List.{range_with_len}
use Rattle.protocol.specs.Limits.{least_width, most_numbers, most_strings, most_width, row_count}
use Rattle.contents.specs.Contents.{Contents}

-- the list f 0, f 1, .. of n elements
unfoldable pub listed : {X : Type 0} → ℕ → (ℕ → X) → List X
listed n f = map f (range_with_len 0 n)

-- the place of a row and a number
abbrev pub place_of : (row number : ℕ) → ℕ
place_of r n = r * most_numbers + (n - 1)

-- the row r of strings by place
unfoldable pub row_by : (ℕ → List ℕ) → ℕ → List (List ℕ)
row_by f r = listed most_numbers (λ k. f (r * most_numbers + k))

unfoldable pub rows_by : (ℕ → List ℕ) → List (List (List ℕ))
rows_by f = listed row_count (row_by f)

-- the store with these strings by place
abbrev pub store_by : (width limit : ℕ) → (ℕ → List ℕ) → Contents
store_by w l f = record { width = w; limit = l; rows = rows_by f }

-- The string at the place p, where the octets of a cell begin at the cell times the width: cell gives the cell of each place,
-- lens the length of its string, 0 where none is held.
abbrev pub string_by : (width : ℕ) (bytes lens : List ℕ) (cell : ℕ → ℕ) → ℕ → List ℕ
string_by w bytes lens cell p = take (slice_index lens p) (drop (cell p * w) bytes)

-- the bounds of width and limit
abbrev pub Sized : (width limit : ℕ) → Type 0
Sized w limit = (least_width ≤ w) × (w ≤ most_width) × (1 ≤ limit) × (limit ≤ most_strings)

-- no string is longer than the width
abbrev pub Short : (width : ℕ) (lens : List ℕ) → Type 0
Short w lens = (p : ℕ) → slice_index lens p ≤ w
