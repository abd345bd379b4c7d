-- What is true of the memory of every store, and the shape that it gives the store.
use Rattle.std.specs.Prelude.{vec_capacity, vec_items}
use Rattle.contents.specs.Contents.{Sound}
use Rattle.contents.specs.Grids.{GridKept}
use Rattle.contents.specs.Pools.{PoolKept}
use Rattle.contents.proofs.Gridding.{grid_sound}
use Rattle.contents.proofs.Pooling.{pool_sound}
use Rattle.store.specs.Meanings.{any_of}
use Rattle.store.specs.declared.any.AnyStore.{AnyStore}
use Rattle.store.specs.declared.any.AnyStore.TheVariants as any
use Rattle.store.specs.declared.grid.Grid.{Grid}
use Rattle.store.specs.declared.pool.Pool.{Pool}
use Rattle.store.specs.Slots.{cells_of, lens_of}

pub grid_kept : (g : Grid) → GridKept g.cells.width (vec_items g.cells.bytes) (vec_items g.lens) g.held
grid_kept g = g.kept

pub pool_kept : (p : Pool) → PoolKept p.cells.width p.limit (vec_capacity p.spare.cells) (vec_items p.cells.bytes) (cells_of (vec_items p.slots)) (lens_of (vec_items p.slots)) (vec_items p.spare.cells)
pool_kept p = p.kept

pub any_sound : (s : AnyStore) → Sound (any_of s)
any_sound (any.Grid g) = grid_sound (grid_kept g)
any_sound (any.Pool p) = pool_sound (pool_kept p)
