use Rattle.std.proofs.Common.{◌≡◌, None, sym, ◌∙◌, rules}
use Rattle.pdu.proofs.Counts.{entries_count}
use Rattle.wire.proofs.reading.read_ack.Goals as goal

pub returns-clause-counts : goal.returns-clause-counts
returns-clause-counts c =
    let none : c.broken.result ≡ None = search rules in
    entries_count _ _ _ (sym c.broken.ensures ∙ none)
