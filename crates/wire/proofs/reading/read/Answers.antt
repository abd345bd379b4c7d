use Rattle.std.proofs.Common.{arith}
use Rattle.wire.proofs.Shown.{shown}
use Rattle.wire.proofs.reading.read.Goals as goal

pub returns-clause-damage : goal.returns-clause-damage
returns-clause-damage c = shown c.args.accepts c.args.datagram.now c.parsed.result (λ i. omega (arith, c.type_inv.datagram i)) c.parsed.ensures.answer
