use Rattle.std.proofs.Common.{◌≡◌, ◌<◌, ◌^◌, ◌*◌, get_or, length, ap, ◌∙◌, rules, tests, arith}
use Rattle.bitmap.specs.Passing.{greatest}
use Rattle.bitmap.specs.Words.{holds}
use Rattle.bitmap.proofs.Steps.{greatest-none, greatest_found}
use Rattle.protocol.specs.Limits.{most_numbers}
use Rattle.parts.proofs.Runs.{last-from_rposition}
use Rattle.parts.proofs.words.Words.top.Goals as goal

pub returns-in_default : goal.returns-in_default
returns-in_default c =
    let ws = c.args.self.now.0 in
    let f = last-from_rposition _ _ c.rposition.result (λ w. 0 < w) (λ w. w ≡ 0) ws _ c.rposition.ensures.ran (cc) (cc) (λ x q k. search (rules, tests)) (λ x q k. search (rules, tests)) in
    let g = rw c.in_default.is at f in
    record { value = greatest-none ws (λ j l. g j 0 (omega arith) l) most_numbers }

pub returns : goal.returns
returns c =
    let ws = c.args.self.now.0 in
    let i = c.in-Some.i in
    let f = last-from_rposition _ _ c.rposition.result (λ w. 0 < w) (λ w. w ≡ 0) ws _ c.rposition.ensures.ran (cc) (cc) (λ x q k. search (rules, tests)) (λ x q k. search (rules, tests)) in
    let g = rw c.in-Some.is at f in
    let fits : get_or ws i 0 < 2 ^ 64 = omega (arith, c.type_inv.self) in
    let e : 64 * length ws ≡ most_numbers = omega arith in
    record { value = greatest_found ws i _ fits (g.1 0) g.0 (λ j a l. g.2 j 0 (omega arith) l) (omega arith) ∙ ap (greatest (holds ws)) e }
