-- What each store means.
use Rattle.std.specs.Prelude.{vec_items}
use Rattle.contents.specs.Contents.{Contents}
use Rattle.contents.specs.Grids.{grid_contents}
use Rattle.contents.specs.Pools.{pool_contents}
use Rattle.store.specs.declared.any.AnyStore.{AnyStore}
use Rattle.store.specs.declared.any.AnyStore.TheVariants as any
use Rattle.store.specs.declared.grid.Grid.{Grid}
use Rattle.store.specs.declared.pool.Pool.{Pool}
use Rattle.store.specs.Slots.{cells_of, lens_of}

abbrev pub grid_of : Grid → Contents
grid_of g = grid_contents g.cells.width (vec_items g.cells.bytes) (vec_items g.lens)

abbrev pub pool_of : Pool → Contents
pool_of p = pool_contents p.cells.width p.limit (vec_items p.cells.bytes) (cells_of (vec_items p.slots)) (lens_of (vec_items p.slots))

abbrev pub any_of : AnyStore → Contents
any_of (any.Grid g) = grid_of g
any_of (any.Pool p) = pool_of p
