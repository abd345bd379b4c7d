use Rattle.std.proofs.Common.{◌<◌}
use Rattle.gauge.proofs.round.Given as goal

abbrev pub invariant-loop-number : goal.invariant-loop-number
invariant-loop-number g l = l.whole < l.number
