use Rattle.std.proofs.Common.{◌≡◌, ◌+◌, ◌-◌, ◌*◌, length, drop, refl, arith, length-drop, rules}
use Rattle.std.proofs.lemmas.Iterator.Consumers.{YieldsList-from_first}
use Rattle.pdu.proofs.Counts.{destinations_count}
use Rattle.wire.specs.Views.{destination_in, destinations_in}
use Rattle.wire.proofs.Rising.{listed}
use Rattle.wire.proofs.reading.read_address.Goals as goal

pub returns-in_err-unbroken-clause-answer : goal.returns-in_err-unbroken-clause-answer
returns-in_err-unbroken-clause-answer c =
    let rises = c.first_unrisen.ensures _ (listed (YieldsList-from_first destination_in destinations_in _ refl)) in
    search rules

pub returns-clause-answer : goal.returns-clause-answer
returns-clause-answer c =
    let rises = c.first_unrisen.ensures _ (listed (YieldsList-from_first destination_in destinations_in _ refl)) in
    search rules

pub returns-clause-counts : goal.returns-clause-counts
returns-clause-counts c =
    let xs = c.args.datagram.octets.now in
    let fills : c.word_at-count.result * (8 + c.word_at-reserved.result) ≡ length xs - 24 = search rules in
    destinations_count c.word_at-count.result 24 c.word_at-reserved.result (drop 24 xs) (omega (arith, fills, length-drop 24 xs))
