-- The delays before an ACK, so that receivers of one message do not all answer at once.
use Rattle.std.specs.Prelude.{◌≡◌, ℕ, zero, suc, ◌+◌, ◌*◌, ◌%◌, ◌<◌}

-- there are so many delays
abbrev pub delay_count : ℕ
delay_count = 256

-- The delays in order: 0 first, and each next is five times the last and 1, modulo their number.
unfoldable pub delay_at : ℕ → ℕ
delay_at zero = 0
delay_at (suc n) = (5 * delay_at n + 1) % delay_count

-- Where a receiver's delay for a message stands: the low octets of the two identities, added modulo the number of delays.
abbrev pub delay_index : (receiver message : ℕ) → ℕ
delay_index receiver message = (receiver % 256 + message % 256) % delay_count

unfoldable pub delay_of : (receiver message : ℕ) → ℕ
delay_of receiver message = delay_at (delay_index receiver message)

-- Each delay stands at one index, and at no other.
abbrev pub EachOnce : Type 0
EachOnce = (v : ℕ) → v < delay_count → (i : ℕ) × (i < delay_count) × (delay_at i ≡ v) × ((j : ℕ) → j < delay_count → delay_at j ≡ v → j ≡ i)
