use Rattle.std.proofs.Common.{refl, arith}
use Rattle.store.proofs.Slots.{slot_taken_keeps}
use Rattle.store.specs.Kept.{pool_kept}
use Rattle.store.proofs.pool.calls.PoolPlaces.release.Goals as goal

pub invariant_of-self : goal.invariant_of-self
invariant_of-self c = record {
  kept =
      slot_taken_keeps c.args.self.now c.args.place c.index-index.result c.index-index.ensures.place _ c.index.ensures c.in-Some.slot c.in-Some.is
      _ refl _ _ c.give.ensures.top (omega (arith, (pool_kept c.args.self.now).spread.3, c.give.ensures.room));
}
