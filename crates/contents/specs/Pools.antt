-- What the memory of a pool means. A place has a cell of its own only while it holds a string; the free cells lie in a stack.
use Rattle.std.specs.Prelude.{◌≡◌, ℕ, ◌+◌, ◌*◌, ◌<◌, ◌≤◌, List, length, slice_index}
use Rattle.protocol.specs.Limits.{most_strings}
use Rattle.contents.specs.Contents.{Contents, total}
use Rattle.contents.specs.Layout.{Short, Sized, store_by, string_by}

abbrev pub pool_contents : (width limit : ℕ) (bytes cells lens : List ℕ) → Contents
pool_contents w limit bytes cells lens = store_by w limit (string_by w bytes lens (λ p. slice_index cells p))

-- a width of octets for each cell, a cell and a length for each place, room for each cell in the stack
abbrev pub Spread : (width limit room : ℕ) (bytes cells lens : List ℕ) → Type 0
Spread w limit room bytes cells lens = (length bytes ≡ limit * w) × (length cells ≡ most_strings) × (length lens ≡ most_strings) × (limit ≤ room)

-- what is held has a cell
abbrev pub Celled : (limit : ℕ) (cells lens : List ℕ) → Type 0
Celled limit cells lens = (p : ℕ) → 0 < slice_index lens p → slice_index cells p < limit

-- and no two have the same
abbrev pub Apart : (cells lens : List ℕ) → Type 0
Apart cells lens = (p q : ℕ) → (0 < slice_index lens p) × (0 < slice_index lens q) × (slice_index cells p ≡ slice_index cells q) → p ≡ q

-- the first of the stack, as many as its depth, are cells
abbrev pub Stocked : (limit depth : ℕ) (spare : List ℕ) → Type 0
Stocked limit depth spare = (i : ℕ) → i < depth → slice_index spare i < limit

-- no two the same
abbrev pub Distinct : (depth : ℕ) (spare : List ℕ) → Type 0
Distinct depth spare = (i j : ℕ) → (i < depth) × (j < depth) × (slice_index spare i ≡ slice_index spare j) → i ≡ j

-- and none that is in use
abbrev pub Unused : (depth : ℕ) (cells lens spare : List ℕ) → Type 0
Unused depth cells lens spare = (i p : ℕ) → (i < depth) × (0 < slice_index lens p) × (slice_index spare i ≡ slice_index cells p) → ⊥

-- the free and the held are all the cells
abbrev pub Whole : (width limit depth : ℕ) (bytes cells lens : List ℕ) → Type 0
Whole w limit depth bytes cells lens = depth + total (pool_contents w limit bytes cells lens) ≡ limit

-- what is true of the memory of every pool, whose free cells are those of the stack
pub record PoolKept (w limit room : ℕ) (bytes cells lens spare : List ℕ) : Type 0 where
  pub sized : Sized w limit
  pub spread : Spread w limit room bytes cells lens
  pub short : Short w lens
  pub celled : Celled limit cells lens
  pub apart : Apart cells lens
  pub stocked : Stocked limit (length spare) spare
  pub distinct : Distinct (length spare) spare
  pub unused : Unused (length spare) cells lens spare
  pub whole : Whole w limit (length spare) bytes cells lens
