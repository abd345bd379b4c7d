use Rattle.std.proofs.Common.{⊎_elim}
use Rattle.contents.proofs.Pooling.{pool_made, pool_made_keeps}
use Rattle.store.proofs.Slots.{many_cells, no_lens, none_or}
use Rattle.store.proofs.pool.Pool.with_sizes.Goals as goal

pub invariant_of-result : goal.invariant_of-result
invariant_of-result c =
    let all = c.in_ok-slots.ensures.items_if_clones_equal (λ y h. ⊎_elim (λ e. e) (λ u. absurd (rw u.1 at h)) (none_or y)) in
    record {
      kept =
          pool_made_keeps c.args.width c.args.limit _ _ _ (no_lens _ all) _ _ _ c.requires.width c.requires.limit c.in_ok-cells.ensures.made.0
          c.in_ok-cells.ensures.made.1 (many_cells _ all) c.in_ok-spare.ensures.all.0 c.in_ok-spare.ensures.all.1 c.in_ok-spare.ensures.room;
    }

pub returns : goal.returns
returns c =
    let all = c.in_ok-slots.ensures.items_if_clones_equal (λ y h. ⊎_elim (λ e. e) (λ u. absurd (rw u.1 at h)) (none_or y)) in
    record { made = pool_made c.args.width c.args.limit _ _ _ (no_lens _ all) _ c.in_ok-cells.ensures.made.0 }
