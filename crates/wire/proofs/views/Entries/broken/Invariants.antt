use Rattle.std.proofs.Common.{◌≡◌}
use Rattle.pdu.specs.Read.{lower}
use Rattle.wire.specs.Views.{broken_in}
use Rattle.wire.proofs.views.Entries.broken.Given as goal

abbrev pub invariant-loop-first : goal.invariant-loop-first
invariant-loop-first l = lower l.lowest (broken_in l.left) ≡ broken_in l.self

abbrev pub decreases-loop-first : goal.decreases-loop-first
decreases-loop-first l = l.left.count
