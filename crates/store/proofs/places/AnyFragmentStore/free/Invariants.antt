use Rattle.std.proofs.Common.{◌≡◌, ◌+◌, ◌-◌}
use Rattle.protocol.specs.Limits.{most_numbers}
use Rattle.contents.specs.Contents.{emptied, row_at, vacant, with_row}
use Rattle.store.proofs.places.AnyFragmentStore.free.Given as goal

abbrev pub invariant-loop-number : goal.invariant-loop-number
invariant-loop-number g l = record {
  below :
      g.P.Places.contents l.self
      ≡ with_row (g.P.Places.contents l.initial.self) l.row (emptied (l.number - 1) (row_at (g.P.Places.contents l.initial.self) l.row));
  all : l.number ≡ most_numbers + 1 → g.P.Places.contents l.self ≡ with_row (g.P.Places.contents l.initial.self) l.row vacant;
}
