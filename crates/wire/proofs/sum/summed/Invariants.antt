use Rattle.std.proofs.Common.{◌≡◌, ◌+◌, ◌*◌, ◌≤◌, take}
use Rattle.std.specs.Int.{w16, from_be_bytes}
use Rattle.std.specs.List.{sum_by}
use Rattle.wire.proofs.sum.summed.Given as goal

abbrev pub invariant-loop-word : goal.invariant-loop-word
invariant-loop-word l = (l.sum ≡ l.initial.sum + sum_by (from_be_bytes w16) (take l.word-index l.words)) × (l.sum ≤ 65535 * (l.word-index + 1))
