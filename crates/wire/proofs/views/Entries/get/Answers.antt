use Rattle.std.proofs.Common.{◌≡◌, refl, ap, ◌∙◌, arith}
use Rattle.std.specs.List.{slice_get}
use Rattle.std.proofs.lemmas.Iterator.Consumers.{nth_from_yields_List, YieldsList-from_first}
use Rattle.wire.specs.Views.{entry_in, entries_in}
use Rattle.wire.proofs.views.Entries.get.Goals as goal

pub returns : goal.returns
returns c =
    let at : c.into.result ≡ c.args.n = omega arith in
    record { value = nth_from_yields_List c.nth.result c.nth.new.self c.into.result c.nth.ensures.ran (YieldsList-from_first entry_in entries_in _ refl) ∙ ap (slice_get (entries_in c.args.self.now)) at }
