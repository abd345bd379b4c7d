use Rattle.std.proofs.Common.{map, ap, ◌∙◌, rules}
use Rattle.std.proofs.lemmas.Iterator.{YieldsList-from_slice, YieldsList-from_map_by}
use Rattle.std.proofs.lemmas.Iterator.Consumers.{YieldsList-at, YieldsList-from_enumerate}
use Rattle.std.specs.List.{enumerate_from}
use Rattle.pdu.specs.Read.{unrisen}
use Rattle.wire.specs.Views.{destination_in}
use Rattle.wire.proofs.Pairs.{numbered, placed_all}
use Rattle.wire.proofs.Rising.{listed}
use Rattle.wire.proofs.write_address.unrisen_place.Goals as goal

pub returns : goal.returns
returns c =
    let ds = c.args.destinations.now in
    c.first_unrisen.ensures (map numbered (enumerate_from 0 ds))
    (listed (YieldsList-from_map_by _ destination_in numbered (YieldsList-at c.map.ensures.source (YieldsList-from_enumerate (YieldsList-at c.enumerate.ensures.source (YieldsList-from_slice ds (cc))) c.enumerate.ensures.count)) c.map.ensures.closure (λ x r q k. search rules)))
    ∙ ap unrisen (placed_all ds)
