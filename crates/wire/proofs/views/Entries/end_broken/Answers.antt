use Rattle.std.proofs.Common.{arith}
use Rattle.std.proofs.lemmas.Bool.Decides.{nat_tests}
use Rattle.pdu.proofs.Walks.{broken_rest}
use Rattle.wire.proofs.Ends.{stopped_at}
use Rattle.wire.proofs.views.Entries.end_broken.Goals as goal
use Rattle.wire.proofs.views.Entries.end_broken.Goals.{then-left-ne0, else-left-ne0}

pub returns-then-self-gt0 : goal.returns-then-self-gt0
returns-then-self-gt0 c = stopped_at _ _ _ _ _ c.if-self-gt0.true c.requires c.entry_length.ensures.broken c.err.ensures.value

pub returns : goal.returns
returns c =
    let rest = broken_rest c.args.self.now.count c.args.self.now.place c.args.self.now.datagram.now (omega arith) in
    elim c.if-left-ne0.branch [ then-left-ne0 w ↦ grind (arith, nat_tests) | else-left-ne0 w ↦ grind (arith, nat_tests) ]
