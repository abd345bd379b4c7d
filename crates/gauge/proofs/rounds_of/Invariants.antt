use Rattle.std.proofs.Common.{◌≡◌, ◌*◌, ◌≤◌, length}
use Rattle.protocol.specs.Limits.{most_numbers, most_width}
use Rattle.gauge.proofs.rounds_of.Given as goal

abbrev pub invariant-loop : goal.invariant-loop
invariant-loop g l = (l.whole ≤ most_numbers * l.counter) × (length l.out ≡ most_width)
