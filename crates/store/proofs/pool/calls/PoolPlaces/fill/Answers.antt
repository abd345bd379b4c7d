use Rattle.std.proofs.Common.{refl, arith}
use Rattle.contents.proofs.Pooling.{pool_put_room}
use Rattle.store.proofs.Slots.{slot_filled, slot_filled_keeps}
use Rattle.store.specs.Kept.{pool_kept}
use Rattle.store.proofs.pool.calls.PoolPlaces.fill.Goals as goal

pub write-len-requires-clause-room : goal.write-len-requires-clause-room
write-len-requires-clause-room c =
    pool_put_room (pool_kept c.args.self.now) c.args.octets.now c.args.place.row c.args.place.number _ c.take-cell.result _ c.args.place.bounded
    c.requires.fits refl c.requires.none c.take-cell.ensures.top

pub invariant_of-self : goal.invariant_of-self
invariant_of-self c = record {
  kept =
      slot_filled_keeps c.args.self.now c.args.place c.index.result c.index.ensures.place c.args.octets.now _ _ c.requires.fits c.requires.none
      c.take-cell.ensures.top c.write-len.ensures.length _ _ c.write-len.ensures.width c.write-len.ensures.bytes _
      (omega (arith, (pool_kept c.args.self.now).spread.3, c.take-cell.ensures.room));
}

pub returns : goal.returns
returns c = record {
  after =
      slot_filled c.args.self.now c.args.place c.index.result c.index.ensures.place c.args.octets.now _ _ c.requires.fits c.requires.none
      c.take-cell.ensures.top c.write-len.ensures.length _ _ c.write-len.ensures.width c.write-len.ensures.bytes;
}
