use Rattle.contents.proofs.Gridding.{grid_release_keeps}
use Rattle.store.specs.Kept.{grid_kept}
use Rattle.store.proofs.grid.calls.GridPlaces.release.Goals as goal

pub invariant_of-self : goal.invariant_of-self
invariant_of-self c = record {
  kept =
      grid_release_keeps (grid_kept c.args.self.now) c.args.place.row c.args.place.number _ _ c.args.place.bounded c.index-index.ensures.place c.index.ensures
      c.if-index-gt0.true;
}
