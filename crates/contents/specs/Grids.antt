-- What the memory of a grid means. Each place is its own cell.
use Rattle.std.specs.Prelude.{◌≡◌, ℕ, ◌*◌, List, length}
use Rattle.protocol.specs.Limits.{most_strings}
use Rattle.contents.specs.Contents.{Contents, total}
use Rattle.contents.specs.Layout.{Short, Sized, store_by, string_by}

abbrev pub grid_contents : (width : ℕ) (bytes lens : List ℕ) → Contents
grid_contents w bytes lens = store_by w most_strings (string_by w bytes lens (λ p. p))

-- a width of octets and a length for each place
abbrev pub Laid : (width : ℕ) (bytes lens : List ℕ) → Type 0
Laid w bytes lens = (length bytes ≡ most_strings * w) × (length lens ≡ most_strings)

-- the count is true
abbrev pub Counted : (width : ℕ) (bytes lens : List ℕ) (held : ℕ) → Type 0
Counted w bytes lens held = held ≡ total (grid_contents w bytes lens)

-- what is true of the memory of every grid
pub record GridKept (w : ℕ) (bytes lens : List ℕ) (held : ℕ) : Type 0 where
  pub sized : Sized w most_strings
  pub laid : Laid w bytes lens
  pub short : Short w lens
  pub counted : Counted w bytes lens held
