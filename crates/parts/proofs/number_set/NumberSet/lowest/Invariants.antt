use Rattle.std.proofs.Common.{◌≡◌, ◌≤◌, ◌++◌, length, take, drop}
use Rattle.parts.specs.Numbers.{rising}
use Rattle.parts.specs.Rising.{left}
use Rattle.parts.proofs.number_set.NumberSet.lowest.Given as goal

abbrev pub invariant-loop-i : goal.invariant-loop-i
invariant-loop-i l = record {
  some : l.i ≤ length (rising l.self.numbers);
  rest : drop l.i (rising l.self.numbers) ≡ left l.rest;
  written : l.out ≡ take l.i (rising l.self.numbers) ++ drop l.i l.initial.out;
}
