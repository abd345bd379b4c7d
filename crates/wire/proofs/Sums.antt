-- The sum of a datagram's words, from pairs of octets and an odd last one.
use Rattle.std.proofs.Common.{◌≡◌, ℕ, zero, suc, ◌+◌, ◌*◌, ◌≤◌, List, [], ◌∷◌, length, drop, arith}
use Rattle.std.proofs.lemmas.List.Sums.{sum_by-cons}
use Rattle.std.specs.Int.{w16, from_be_bytes}
use Rattle.std.specs.List.{sum_by}
use Rattle.std.specs.Simd.{first_chunks}
use Rattle.pdu.specs.Sum.{word_sum}

pub sum_of_chunks : (k j : ℕ) (xs : List ℕ) → j ≡ k * 2 → j ≤ length xs → word_sum xs ≡ word_sum (drop j xs) + sum_by (from_be_bytes w16) (first_chunks 2 k xs)
sum_of_chunks zero zero xs e h = omega arith
sum_of_chunks zero (suc j) xs e h = absurd (omega arith)
sum_of_chunks (suc k) zero xs e h = absurd (omega arith)
sum_of_chunks (suc k) (suc zero) xs e h = absurd (omega arith)
sum_of_chunks (suc k) (suc (suc j)) [] e h = absurd (omega arith)
sum_of_chunks (suc k) (suc (suc j)) (a ∷ []) e h = absurd (omega arith)
sum_of_chunks (suc k) (suc (suc j)) (a ∷ b ∷ xs) e h =
    let first : sum_by (from_be_bytes w16) (first_chunks 2 (suc k) (a ∷ b ∷ xs)) ≡ (a * 256 + b) + sum_by (from_be_bytes w16) (first_chunks 2 k xs) = sum_by-cons (from_be_bytes w16) (a ∷ b ∷ []) (first_chunks 2 k xs) in
    omega (arith, first, sum_of_chunks k j xs (omega arith) (omega arith))
