use Rattle.std.proofs.Common.{get_or, rules, arith}
use Rattle.protocol.specs.Limits.{word_count}
use Rattle.parts.specs.Joints.{JoinsBits}
use Rattle.parts.specs.Joints.Joint.{Or}
use Rattle.parts.proofs.Bitwise.{words_joined, either}
use Rattle.parts.proofs.Runs.{each_made}
use Rattle.parts.proofs.words.WordsBitOr.bitor.Goals as goal

pub returns : goal.returns
returns c =
    words_joined Or _ _ _
    (λ j h. each_made _ (λ i x. JoinsBits Or (get_or c.args.self.0 i 0) (get_or c.args.other.0 i 0) x) _ (λ i x q k. search (rules, either)) c.from_fn.result 0 word_count 0 c.from_fn.ensures.items.each j (omega arith) (omega arith))
