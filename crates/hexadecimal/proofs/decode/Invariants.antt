use Rattle.std.proofs.Common.{◌≡◌, drop, vec_items}
use Rattle.hexadecimal.specs.Digits.{octets_of}
use Rattle.hexadecimal.proofs.Steps.{prefixed, octets_of_pairs}
use Rattle.hexadecimal.proofs.decode.Given as goal

abbrev pub invariant-loop-high : goal.invariant-loop-high
invariant-loop-high l = prefixed (vec_items l.octets) (octets_of_pairs (drop l.high-index l.pairs)) ≡ octets_of l.text
