-- Sets joined bit by bit.
use Rattle.std.specs.Prelude.{◌≡◌, ℕ, ◌<◌, ◌≤◌, Bool, not, List, ◌&&◌, ◌||◌}
use Rattle.bitmap.specs.Words.{bit_of, holds}
use Rattle.protocol.specs.Limits.{most_numbers}

-- how two words are joined
pub data Joint : Type 0 where
  And : Joint
  AndNot : Joint
  Or : Joint

-- what becomes of two bits
abbrev pub joins : Joint → Bool → Bool → Bool
joins And x y = x && y
joins AndNot x y = x && not y
joins Or x y = x || y

-- words that hold the numbers of two others joined
pub record Joins (how : Joint) (us vs ws : List ℕ) : Type 0 where
  pub at : (k : ℕ) → 0 < k → k ≤ most_numbers → holds ws k ≡ joins how (holds us k) (holds vs k)

-- a word whose bits are those of two others joined
pub record JoinsBits (how : Joint) (x y w : ℕ) : Type 0 where
  pub at : (b : ℕ) → b < 64 → bit_of w b ≡ joins how (bit_of x b) (bit_of y b)
