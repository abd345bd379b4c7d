-- A Checksum put into a PDU.
use Rattle.std.proofs.Common.{◌≡◌, ℕ, ◌/◌, ◌%◌, ◌-◌, ◌≤◌, List, [], ◌∷◌, ◌++◌, length, take, drop, set, refl, ap, ◌∙◌, arith}
use Rattle.pdu.specs.Octets.{two_octets}
use Rattle.pdu.specs.Sum.{checksum_of}
use Rattle.pdu.specs.Write.{overlaid, sealed}
use Rattle.pdu.proofs.Puts.{seals}

two_put : (a b : ℕ) (xs : List ℕ) → 8 ≤ length xs → overlaid xs 6 (a ∷ b ∷ []) ≡ set (set xs 6 a) 7 b
two_put a b [] h = absurd (omega arith)
two_put a b (x0 ∷ []) h = absurd (omega arith)
two_put a b (x0 ∷ x1 ∷ []) h = absurd (omega arith)
two_put a b (x0 ∷ x1 ∷ x2 ∷ []) h = absurd (omega arith)
two_put a b (x0 ∷ x1 ∷ x2 ∷ x3 ∷ []) h = absurd (omega arith)
two_put a b (x0 ∷ x1 ∷ x2 ∷ x3 ∷ x4 ∷ []) h = absurd (omega arith)
two_put a b (x0 ∷ x1 ∷ x2 ∷ x3 ∷ x4 ∷ x5 ∷ []) h = absurd (omega arith)
two_put a b (x0 ∷ x1 ∷ x2 ∷ x3 ∷ x4 ∷ x5 ∷ x6 ∷ []) h = absurd (omega arith)
two_put a b (x0 ∷ x1 ∷ x2 ∷ x3 ∷ x4 ∷ x5 ∷ x6 ∷ x7 ∷ xs) h = refl

pub seal_put : (n sum : ℕ) (xs out : List ℕ) → 8 ≤ n → n ≤ length xs → sum ≡ checksum_of (take n xs) → out ≡ overlaid xs 6 (two_octets sum) → out ≡ sealed (take n xs) ++ drop n xs
seal_put n sum xs out h l e is =
    let same : n ≡ n - 0 = omega arith in
    is ∙ two_put (sum / 256) (sum % 256) xs (omega arith) ∙ seals n sum xs h l (e ∙ ap (λ k. checksum_of (take k xs)) same)
