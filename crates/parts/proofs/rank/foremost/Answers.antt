use Rattle.std.proofs.Common.{◌≡◌, length, subst, arith}
use Rattle.parts.specs.Foremost.{Foremost}
use Rattle.parts.proofs.Choosing.{foremost_is}
use Rattle.parts.proofs.rank.foremost.Goals as goal

pub returns-clause-place : goal.returns-clause-place
returns-clause-place g c =
    let w = g.T.Rank.waiting in
    let a = g.T.Rank.ahead in
    let xs = c.args.items.now in
    let e : c.loop-i.i ≡ length xs = omega arith in
    foremost_is w a g.met.T.Rank.oneway g.met.T.Rank.chain xs c.loop-i.best (subst (λ n. Foremost w a xs n c.loop-i.best) e c.loop-i.invariant)
