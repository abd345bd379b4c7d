use Rattle.std.proofs.Common.{◌≡◌, ◌+◌, ◌/◌, [], ◌∷◌, ◌++◌, length, drop, vec_items, ap, ◌∙◌, arith, rules}
use Rattle.hexadecimal.specs.Digits.{octets_of}
use Rattle.hexadecimal.proofs.Steps.{prefixed, octets_of_pairs, paired, prefixed_none, good_octet, odd_text}
use Rattle.hexadecimal.proofs.decode.Goals as goal

pub returns-in_default : goal.returns-in_default
returns-in_default c = record { value = odd_text c.args.text.now (omega (arith, c.as_chunks.ensures)) }

pub loop-high-init : goal.loop-high-init
loop-high-init c =
    let n = length c.args.text.now / 2 in
    let whole : length c.args.text.now ≡ n + n = omega (arith, c.in_default-empty.len_below, c.as_chunks.ensures.back_len) in
    let none : vec_items c.in_ok-octets.octets ≡ [] = search rules in
    ap (λ ys. prefixed ys (octets_of_pairs c.as_chunks.result.0.now)) none
    ∙ ap (λ ps. prefixed [] (octets_of_pairs ps)) c.as_chunks.ensures.front
    ∙ ap (prefixed []) (paired n c.args.text.now whole)
    ∙ prefixed_none (octets_of c.args.text.now)

pub loop-high-preserved : goal.loop-high-preserved
loop-high-preserved c =
    let items : vec_items c.push.new.self ≡ vec_items c.loop-high.octets ++ c.in-Some.next ∷ [] = search rules in
    ap (λ ys. prefixed ys (octets_of_pairs (drop (c.loop-high.high-index + 1) c.as_chunks.result.0.now))) items
    ∙ good_octet (vec_items c.loop-high.octets) _ c.loop-high.high-index c.loop-high-test.true _ c.octet.ensures c.in-Some.next c.in-Some.is
    ∙ c.loop-high.invariant
