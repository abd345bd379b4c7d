use Rattle.std.proofs.Common.{length, ap, ◌∙◌, arith}
use Rattle.std.proofs.lemmas.List.{length-drop}
use Rattle.parts.specs.Numbers.{rising}
use Rattle.parts.proofs.Walks.{put_next, rising_count}
use Rattle.parts.proofs.number_set.NumberSet.lowest.Goals as goal

pub returns-in_default-clause-count : goal.returns-in_default-clause-count
returns-in_default-clause-count c =
    let s = c.args.self.now in
    let i = c.loop-i.invariant in
    omega (arith, i.some, rising_count s.numbers s.sound, length-drop c.loop-i.i (rising s.numbers), ap length (i.rest ∙ c.in_default.ensures.steps.0))

pub loop-i-preserved : goal.loop-i-preserved
loop-i-preserved c =
    let i = c.loop-i.invariant in
    let p = put_next (rising c.args.self.now.numbers) c.args.out.now c.loop-i.out _ c.loop-i.i c.in-Some.n (omega arith) i.some i.written (i.rest ∙ c.in-Some.ensures.steps) in
    record { some = p.2; rest = p.1; written = p.0 }
