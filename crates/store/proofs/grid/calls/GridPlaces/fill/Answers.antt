use Rattle.contents.proofs.Gridding.{grid_put_keeps}
use Rattle.store.specs.Kept.{grid_kept}
use Rattle.store.proofs.grid.calls.GridPlaces.fill.Goals as goal

pub invariant_of-self : goal.invariant_of-self
invariant_of-self c = record {
  kept =
      rw c.write.ensures.length
      (grid_put_keeps (grid_kept c.args.self.now) c.args.octets.now c.args.place.row c.args.place.number c.index-index.result c.args.place.bounded
      c.requires.fits c.index-index.ensures.place c.requires.none _ c.write.ensures.bytes _ c.write.ensures.width);
}
