use Rattle.std.proofs.Common.{◌+◌, ◌*◌, not, sym, ap, ◌∙◌, rules}
use borrow.Author.Tests.{tests}
use Rattle.std.proofs.lemmas.Iterator.Search.{position_from_yields_List}
use Rattle.std.specs.Option.{option_map}
use Rattle.protocol.specs.Limits.{is_number}
use Rattle.wire.proofs.Words.{broken_position}
use Rattle.wire.proofs.rules.first_broken.Goals as goal

pub returns-in_err-k : goal.returns-in_err-k
returns-in_err-k g c = λ ns e.
    let first = position_from_yields_List {steps = g.I.Iterator.next_gives} {v = λ n. n} (λ n. not (is_number n)) c.position.new.self _ c.position.result c.position.ensures.ran (record { runs = e }) (λ x b q k. search (rules, tests)) in
    c.from_residual.ensures ∙ ap (option_map (λ k. c.args.place + 2 * k)) (sym (c.in_err-k.was) ∙ first) ∙ broken_position c.args.place ns

pub returns : goal.returns
returns g c = λ ns e.
    let first = position_from_yields_List {steps = g.I.Iterator.next_gives} {v = λ n. n} (λ n. not (is_number n)) c.position.new.self _ c.position.result c.position.ensures.ran (record { runs = e }) (λ x b q k. search (rules, tests)) in
    ap (option_map (λ k. c.args.place + 2 * k)) (sym (c.in_ok-k.was) ∙ first) ∙ broken_position c.args.place ns
