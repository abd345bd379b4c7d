use Rattle.std.proofs.Common.{refl, arith}
use Rattle.pdu.proofs.Walks.{entries_none}
use Rattle.wire.proofs.Ends.{refused_at, front_is, front_broken}
use Rattle.wire.specs.Views.{entry_in}
use Rattle.wire.proofs.views.Entries.split_first.Goals as goal

pub returns-then-self-eq0-clause-parts : goal.returns-then-self-eq0-clause-parts
returns-then-self-eq0-clause-parts c = entries_none _ _ _ c.if-self-eq0.true

pub returns-in_default-clause-parts : goal.returns-in_default-clause-parts
returns-in_default-clause-parts c = refused_at _ _ _ c.entry_length.result c.entry_length.ensures.broken c.in_default.not-Ok

pub returns-clause-parts : goal.returns-clause-parts
returns-clause-parts c =
    let first = c.entry_at-first.ensures in
    front_is _ _ _ _ _ (entry_in c.entry_at-first.result) c.in-Ok.ensures.broken c.in-Ok.ensures.within.0 (omega arith) refl first.place first.numbers first.source first.message

pub returns-clause-broken : goal.returns-clause-broken
returns-clause-broken c =
    let first = c.entry_at-first.ensures in
    front_broken _ _ _ _ _ (entry_in c.entry_at-first.result) c.in-Ok.ensures.broken c.in-Ok.ensures.within.0 (omega arith) refl first.place first.numbers
