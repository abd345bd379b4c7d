use Rattle.contents.proofs.Gridding.{grid_made, grid_made_keeps}
use Rattle.store.proofs.grid.Grid.with_width.Goals as goal

pub invariant_of-result : goal.invariant_of-result
invariant_of-result c = record {
  kept =
      grid_made_keeps c.args.width _ _ (c.in_ok-lens.ensures.items_if_clones_equal (λ y e. e)) _ c.requires c.in_ok-cells.ensures.made.0 c.in_ok-cells.ensures.made.1;
}

pub returns : goal.returns
returns c = record { made = grid_made c.args.width _ _ (c.in_ok-lens.ensures.items_if_clones_equal (λ y e. e)) _ c.in_ok-cells.ensures.made.0 }
