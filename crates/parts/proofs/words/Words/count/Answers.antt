use Rattle.std.proofs.Common.{◌+◌, ◌^◌, ◌<◌, get_or, sym, ap, ◌∙◌, arith, below_none, below_more}
use lib.Count.{ones, ones-le}
use Rattle.bitmap.specs.Words.{holds}
use Rattle.bitmap.proofs.Counts.{tally-none}
use Rattle.bitmap.proofs.Words.{tally-whole}
use Rattle.parts.proofs.words.Words.count.Goals as goal

pub loop-word-init : goal.loop-word-init
loop-word-init c = record { counted = sym (tally-none (holds c.args.self.now.0)); small = omega arith; fits = below_none _ }

pub loop-word-preserved : goal.loop-word-preserved
loop-word-preserved c =
    let ws = c.args.self.now.0 in
    let i = c.loop-word.word-index in
    let f : get_or ws i 0 < 2 ^ 64 = omega (arith, c.type_inv) in
    record {
      counted = ap (λ x. x + ones (get_or ws i 0)) c.loop-word.invariant.counted ∙ sym (tally-whole ws i f);
      small = omega (arith, ones-le 64 (get_or ws i 0) f);
      fits = below_more _ _ c.loop-word.invariant.fits f;
    }
