-- What a call leads to, and the clock.
use Rattle.std.specs.Prelude.{ℕ, ◌*◌, Bool, ◌&&◌, Ok, Err, Result, nat_le}
use Rattle.protocol.specs.Limits.{last_clock}
use Rattle.protocol.specs.Times.{second}
use Rattle.rules.specs.Refusals.{Refusal}

-- how an end stands after a call, and what the call answers
abbrev pub Outcome : (E A : Type 0) → Type 0
Outcome E A = E × Result A Refusal

-- A refusal leaves all as it was.
abbrev pub refuse : {E A : Type 0} → E → Refusal → Outcome E A
refuse e refusal = (e, Err refusal)

abbrev pub accept : {E A : Type 0} → E → A → Outcome E A
accept e answer = (e, Ok answer)

-- A clock above its limit or below now is refused.
abbrev pub is_clock : (now clock : ℕ) → Bool
is_clock now clock = nat_le clock last_clock && nat_le now clock

-- An expiry, in seconds, is reached at its millisecond and later.
abbrev pub reached : (now expiry : ℕ) → Bool
reached now expiry = nat_le (expiry * second) now
