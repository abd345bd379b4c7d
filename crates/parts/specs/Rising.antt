-- What a walk over a set goes on to give.
use Rattle.std.specs.Prelude.{ℕ, ◌+◌, ◌-◌, List}
use Rattle.bitmap.specs.Passing.{rising_from}
use Rattle.protocol.specs.Limits.{most_numbers}
use Rattle.parts.specs.declared.rising.Rising.{Rising}
use Rattle.parts.specs.Numbers.{has}

-- the numbers of its set from one on, rising
abbrev pub left : Rising → List ℕ
left r = rising_from (has r.set.numbers) r.from (most_numbers + 1 - r.from)
