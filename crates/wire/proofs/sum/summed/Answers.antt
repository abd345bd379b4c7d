use Rattle.std.proofs.Common.{◌*◌, ◌/◌, length, refl, ap, ◌∙◌, arith}
use Rattle.std.proofs.lemmas.List.{take_all}
use Rattle.std.specs.Int.{w16, from_be_bytes}
use Rattle.std.specs.List.{sum_by}
use Rattle.pdu.specs.Sum.{word_sum}
use Rattle.wire.proofs.Sums.{sum_of_chunks}
use Rattle.wire.proofs.sum.summed.Goals as goal

pub returns : goal.returns
returns c =
    let xs = c.args.datagram.now in
    let words = c.as_chunks.result.0.now in
    let odd = c.odd_word-sum.ensures.value ∙ ap word_sum c.as_chunks.ensures.back in
    let whole = ap (sum_by (from_be_bytes w16)) (take_all c.loop-word.word-index words (omega arith) ∙ c.as_chunks.ensures.front) in
    omega (arith, c.loop-word.invariant.0, odd, whole, sum_of_chunks (length xs / 2) (length xs / 2 * 2) xs refl (omega arith))
