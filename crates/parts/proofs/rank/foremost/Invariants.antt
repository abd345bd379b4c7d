use Rattle.parts.specs.Foremost.{Foremost}
use Rattle.parts.proofs.rank.foremost.Given as goal

abbrev pub invariant-loop-i : goal.invariant-loop-i
invariant-loop-i g l = Foremost g.T.Rank.waiting g.T.Rank.ahead l.items l.i l.best
