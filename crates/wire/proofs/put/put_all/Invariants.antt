use Rattle.std.proofs.Common.{◌≡◌, ℕ, ◌<◌, get_or, take}
use Rattle.std.specs.List.{flat_map}
use Rattle.pdu.specs.Write.{overlaid}
use Rattle.wire.proofs.put.put_all.Given as goal

abbrev pub invariant-loop-i : goal.invariant-loop-i
invariant-loop-i g l = record {
  after : l.out ≡ overlaid l.initial.out l.place (flat_map g.T.ToOctets.octets (take l.i l.items));
  fits : (k : ℕ) (d : g.row.T.Denot) → k < l.i → g.T.ToOctets.fits (get_or l.items k d);
}
