use Rattle.std.proofs.Common.{nat_lt, ◌&&◌, rules, arith}
use Rattle.protocol.specs.Limits.{word_count}
use Rattle.bitmap.specs.Words.{Fitted}
use Rattle.bitmap.proofs.Words.{words_of_is}
use Rattle.parts.specs.Numbers.{Holding}
use Rattle.parts.proofs.words.Words.between.Goals as goal

pub returns : goal.returns
returns c =
    let ws = c.sub.result.0 in
    let fits : Fitted ws = search rules in
    let holds : Holding (λ k. nat_lt c.args.a k && nat_lt k c.args.b) ws = search rules in
    record { value = words_of_is ws _ word_count (omega arith) fits holds.at }
