-- The cells and the lengths of the strings of a pool by place, 0 where none is held.
use Rattle.std.specs.Prelude.{ℕ, List, Option, Some, None, map}
use Rattle.store.specs.declared.pool.slot.Slot.{Slot}

abbrev pub cell_of : Option Slot → ℕ
cell_of (Some s) = s.cell
cell_of None = 0

abbrev pub len_of : Option Slot → ℕ
len_of (Some s) = s.len
len_of None = 0

abbrev pub cells_of : List (Option Slot) → List ℕ
cells_of = map cell_of

abbrev pub lens_of : List (Option Slot) → List ℕ
lens_of = map len_of
