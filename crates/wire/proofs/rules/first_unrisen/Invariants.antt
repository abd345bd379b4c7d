use Rattle.std.proofs.Common.{◌≡◌, List}
use Rattle.std.specs.Iterator.{AlwaysYields}
use Rattle.pdu.specs.Read.{unrisen}
use Rattle.pdu.specs.Said as Said
use Rattle.wire.specs.Views.{destination_in}
use Rattle.wire.proofs.Rising.{unrisen_from}
use Rattle.wire.proofs.rules.first_unrisen.Given as goal

abbrev pub invariant-loop-d : goal.invariant-loop-d
invariant-loop-d g l =
    (goal.iterator-loop-d g).can_next l.d-iterator
    × (goal.iterator-loop-d g).is_finite l.d-iterator
    × ((ds : List Said.Destination) → AlwaysYields g.I.Iterator.next_gives destination_in l.fn.destinations ds
    → (rest : List Said.Destination) × AlwaysYields g.I.Iterator.next_gives destination_in l.d-iterator rest × (unrisen_from l.before rest ≡ unrisen ds))
