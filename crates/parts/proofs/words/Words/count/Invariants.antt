use Rattle.std.proofs.Common.{◌≡◌, ℕ, ◌*◌, ◌^◌, ◌<◌, ◌≤◌, get_or}
use Rattle.bitmap.specs.Passing.{tally}
use Rattle.bitmap.specs.Words.{holds}
use Rattle.parts.proofs.words.Words.count.Given as goal

abbrev pub invariant-loop-word : goal.invariant-loop-word
invariant-loop-word l = record {
  counted : l.seen ≡ tally (holds l.self.0) (64 * l.word-index);
  small : l.seen ≤ 64 * l.word-index;
  fits : (j : ℕ) → j < l.word-index → get_or l.self.0 j 0 < 2 ^ 64;
}
