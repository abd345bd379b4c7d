use Rattle.std.proofs.Common.{◌≡◌, ℕ, ◌-◌, ◌*◌, ◌^◌, ◌<◌, ◌≤◌, leb, min, ap, ◌∙◌, rules, arith}
use Rattle.protocol.specs.Limits.{most_numbers, word_count}
use Rattle.bitmap.specs.Words.{Fitted, holds}
use Rattle.bitmap.proofs.Joins.{front_holds}
use Rattle.bitmap.proofs.Words.{words_of_is}
use Rattle.parts.specs.Numbers.{up_to}
use Rattle.parts.proofs.Runs.{each_made}
use Rattle.parts.proofs.words.Words.up_to.Goals as goal

pub returns : goal.returns
returns c =
    let n = c.args.total in
    let ws = c.from_fn.result in
    let made = each_made _ (λ i x. x ≡ 2 ^ min (n - i * 64) 64 - 1) _ (λ i x q k. search rules) ws 0 word_count 0 c.from_fn.ensures.items.each in
    let front : (k : ℕ) → 0 < k → k ≤ most_numbers → holds ws k ≡ leb k n =
    front_holds ws n word_count (λ j h. let e : n - j * 64 ≡ n - 64 * j = omega arith in made j (omega arith) (omega arith) ∙ ap (λ (x : ℕ). 2 ^ min x 64 - 1) e) in
    let fits : Fitted ws = search rules in
    record { value = words_of_is ws (up_to n) word_count (omega arith) fits front; holds = record { at = front } }
