-- One changed octet, and so one changed bit, shows in the Checksum.
use Rattle.std.proofs.Common.{◌≡◌, ℕ, zero, suc, ◌+◌, ◌*◌, ◌^◌, ◌<◌, ◌≤◌, ◌⊎◌, List, [], ◌∷◌, length, get_or, set, Err, sym, refl, ap, ◌∙◌, inl, inr, ⊎_elim, arith, length-set}
use lib.Bits.{bit_xor, xor_lt, xor_self, xor_assoc}
use Rattle.std.proofs.lemmas.Nat.{pow_pos, pow_below}
use Rattle.std.proofs.lemmas.Bool.{cases_order, cases_eq}
use Rattle.std.proofs.lemmas.Bool.Decides.{nat_tests}
use Rattle.protocol.specs.Causes.{cause}
use Rattle.protocol.specs.Limits.{shortest, longest}
use Rattle.pdu.specs.declared.Accepts.{Accepts}
use Rattle.pdu.specs.Damage.{flipped, DamageShows}
use Rattle.pdu.specs.Octets.{Octets}
use Rattle.pdu.specs.Read.{length_field, checksum_field, head_of, after_head}
use Rattle.pdu.specs.Sum.{checksum_of, blanked, word_sum}
use Rattle.pdu.proofs.Framed.{Framed}
use Rattle.pdu.proofs.Ones.{ones_sum_lem, weight, word_sum-set, word_sum-blanked, octets-set, octets-blanked}

-- with the right Checksum the words' sum is a multiple of 65535
good_sum : (xs : List ℕ) → Octets xs → 8 ≤ length xs → checksum_field xs ≡ checksum_of xs → (q : ℕ) × (word_sum xs ≡ q * 65535)
good_sum xs o h e =
    let p = ones_sum_lem (blanked xs) (octets-blanked xs o) in
    (p.times + 1, omega (arith, word_sum-blanked xs h))

weight_is : (i : ℕ) → (weight i ≡ 256) ⊎ (weight i ≡ 1)
weight_is zero = inl refl
weight_is (suc zero) = inr refl
weight_is (suc (suc i)) = weight_is i

-- two sums that differ by at most 65280 and are both multiples of 65535 are equal
differ : (q r a b : ℕ) → r * 65535 + a ≡ q * 65535 + b → a ≤ b + 65280 → b ≤ a + 65280 → a ≡ b
differ q r a b e l h = ⊎_elim (λ s. omega arith) (λ t. ⊎_elim (λ s. omega arith) (λ s. omega arith) t) (cases_order q r)

-- the octet x at a place that counts w, changed to v
moved : (w x v q r : ℕ) → (w ≡ 256) ⊎ (w ≡ 1) → x < 256 → v < 256 → r * 65535 + w * x ≡ q * 65535 + w * v → v ≡ x
moved w x v q r is hx hv h =
    ⊎_elim
    (λ e. let s = ap (λ k. k * x) e in let t = ap (λ k. k * v) e in omega (arith, differ q r (256 * x) (256 * v) (omega arith) (omega arith) (omega arith)))
    (λ e. let s = ap (λ k. k * x) e in let t = ap (λ k. k * v) e in omega (arith, differ q r x v (omega arith) (omega arith) (omega arith)))
    is

octet_shows : (xs : List ℕ) (i v : ℕ) → Octets xs → 8 ≤ length xs → i < length xs → v < 256 → (v ≡ get_or xs i 0 → ⊥) → checksum_field xs ≡ checksum_of xs → checksum_field (set xs i v) ≡ checksum_of (set xs i v) → ⊥
octet_shows xs i v o h l hv ne good good' =
    let p = good_sum xs o h good in
    let q = good_sum (set xs i v) (octets-set xs i v hv o) (simp length-set h) good' in
    ne (moved (weight i) (get_or xs i 0) v p.0 q.0 (weight_is i) (o i) hv (omega (arith, word_sum-set xs i v l)))

-- a changed bit changes the octet, which stays one
flip_other : (x b : ℕ) → bit_xor x (2 ^ b) ≡ x → ⊥
flip_other x b e =
    let back : bit_xor x (bit_xor x (2 ^ b)) ≡ 2 ^ b = sym (xor_assoc x x (2 ^ b)) ∙ ap (λ z. bit_xor z (2 ^ b)) (xor_self x) in
    let none : bit_xor x (bit_xor x (2 ^ b)) ≡ 0 = ap (bit_xor x) e ∙ xor_self x in
    omega (arith, pow_pos b)

flip_octet : (x b : ℕ) → x < 256 → b < 8 → bit_xor x (2 ^ b) < 256
flip_octet x b h l = xor_lt 8 x (2 ^ b) h (pow_below b 8 l)

-- == refusals 2 and 3 ==

wrong_length : (end : Accepts) (xs : List ℕ) → shortest ≤ length xs → length xs ≤ longest → (length_field xs ≡ length xs → ⊥) → head_of end xs ≡ Err (cause 2 (length_field xs ∷ length xs ∷ []))
wrong_length end xs low high l = grind (arith, nat_tests)

wrong_sum : (end : Accepts) (xs : List ℕ) → shortest ≤ length xs → length xs ≤ longest → length_field xs ≡ length xs → (checksum_field xs ≡ checksum_of xs → ⊥)
    → head_of end xs ≡ Err (cause 3 (checksum_field xs ∷ checksum_of xs ∷ []))
wrong_sum end xs low high l s = grind (arith, nat_tests)

pub damage_shows : (xs : List ℕ) → Octets xs → Framed xs → DamageShows xs
damage_shows xs o f end i b l hb =
    let ys = flipped xs i b in
    let same : length ys ≡ length xs = length-set xs i _ in
    ⊎_elim
    (λ e. (
      cause 3 (checksum_field ys ∷ checksum_of ys ∷ []),
      ap (λ r. after_head end r ys) (wrong_sum end ys (omega arith) (omega arith) e
          (octet_shows xs i (bit_xor (get_or xs i 0) (2 ^ b)) o (omega arith) l (flip_octet (get_or xs i 0) b (o i) hb) (flip_other (get_or xs i 0) b) f.sum)),
      inr refl,
    ))
    (λ ne. (
      cause 2 (length_field ys ∷ length ys ∷ []),
      ap (λ r. after_head end r ys) (wrong_length end ys (omega arith) (omega arith) ne),
      inl refl,
    ))
    (cases_eq (length_field ys) (length ys))
