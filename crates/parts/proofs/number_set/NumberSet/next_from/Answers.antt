use Rattle.std.proofs.Common.{◌+◌, subst}
use Rattle.bitmap.specs.Passing.{Next}
use Rattle.bitmap.specs.Words.{holds}
use Rattle.parts.specs.Numbers.{has}
use Rattle.parts.proofs.Walks.{next_has, next_number, next_value}
use Rattle.parts.proofs.number_set.NumberSet.next_from.Goals as goal

pub returns : goal.returns
returns c =
    let s = c.args.self.now in
    let n = c.args.n in
    let j = c.saturating_sub.result in
    let o = c.above.result in
    let w : Next (holds s.numbers.words) (j + 1) o = subst (λ ws. Next (holds ws) (j + 1) o) c.words.ensures.value c.above.ensures.next in
    let h : Next (has s.numbers) n o = next_has s.numbers s.sound n j c.saturating_sub.ensures o w in
    record { value = next_value s.numbers n o h; stands = h; number = next_number s.numbers n o h }
