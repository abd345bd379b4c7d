-- Pairs of octets and the numbers that they are.
use Rattle.std.proofs.Common.{◌≡◌, ℕ, zero, suc, ◌+◌, ◌*◌, ◌/◌, true, false, cond, not, List, [], ◌∷◌, length, map, Some, sym, refl, ap, ◌∙◌, arith}
use Rattle.std.proofs.lemmas.Iterator.Adapters.{position_from-zero}
use Rattle.std.specs.Int.{w16, from_be_bytes}
use Rattle.std.specs.List.{position, position_from}
use Rattle.std.specs.Option.{option_map}
use Rattle.std.specs.Simd.{first_chunks}
use Rattle.protocol.specs.Limits.{is_number}
use Rattle.pdu.specs.Octets.{words_of}
use Rattle.pdu.specs.Read.{numbers_broken}

pub words_in_chunks : (k : ℕ) (xs : List ℕ) → k ≡ length xs / 2 → map (from_be_bytes w16) (first_chunks 2 k xs) ≡ words_of xs
words_in_chunks zero [] e = refl
words_in_chunks zero (a ∷ []) e = refl
words_in_chunks zero (a ∷ b ∷ xs) e = absurd (omega arith)
words_in_chunks (suc k) [] e = absurd (omega arith)
words_in_chunks (suc k) (a ∷ []) e = absurd (omega arith)
words_in_chunks (suc k) (a ∷ b ∷ xs) e = ap (λ ws. (a * 256 + b) ∷ ws) (words_in_chunks k xs (omega arith))

broken_from : (place q k : ℕ) (ns : List ℕ) → q ≡ place + 2 * k → option_map (λ i. place + 2 * i) (position_from (λ n. not (is_number n)) k ns) ≡ numbers_broken q ns
broken_from place q k [] e = refl
broken_from place q k (n ∷ ns) e =
    elim (is_number n) as (λ b. option_map (λ i. place + 2 * i) (cond (not b) (Some k) (position_from (λ m. not (is_number m)) (k + 1) ns)) ≡ cond b (numbers_broken (q + 2) ns) (Some q)) [
      | true ↦ broken_from place (q + 2) (k + 1) ns (omega arith)
      | false ↦ ap Some (sym e)
    ]

-- the place of the first number that is none
pub broken_position : (place : ℕ) (ns : List ℕ) → option_map (λ i. place + 2 * i) (position (λ n. not (is_number n)) ns) ≡ numbers_broken place ns
broken_position place ns = ap (option_map (λ i. place + 2 * i)) (position_from-zero (λ n. not (is_number n)) ns) ∙ broken_from place place 0 ns (omega arith)
