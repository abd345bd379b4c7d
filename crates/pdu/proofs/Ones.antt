-- Sums of words, plain and in one's complement.
use Rattle.std.proofs.Common.{◌≡◌, ℕ, zero, suc, ◌+◌, ◌-◌, ◌*◌, ◌/◌, ◌<◌, ◌≤◌, ◌⊎◌, List, [], ◌∷◌, length, get_or, set, ap, ◌∙◌, inl, inr, ⊎_elim, arith, length-set}
use Rattle.std.proofs.lemmas.Bool.{cases_order, cases_eq}
use Rattle.std.proofs.lemmas.List.{get_or-set_other}
use Rattle.pdu.specs.Octets.{Octets, word}
use Rattle.pdu.specs.Sum.{carried, ones_sum, blanked, checksum_of, word_sum}

-- r is the one's complement value of the plain sum s
pub record Ones (s r : ℕ) : Type 0 where
  pub small : r ≤ 65535
  pub times : ℕ
  pub whole : s ≡ times * 65535 + r
  pub none : (0 < r) ⊎ (s ≡ 0)

pub ones_same : (s r t : ℕ) → Ones s r → Ones s t → r ≡ t
ones_same s r t p q = ⊎_elim (λ e. omega arith) (λ d. ⊎_elim (λ l. omega arith) (λ l. omega arith) d) (cases_order p.times q.times)

-- one fold of a sum
ones_carried : (s r : ℕ) → Ones (carried s) r → Ones s r
ones_carried s r p = record { small = p.small; times = p.times + s / 65536; whole = omega arith; none = ⊎_elim (λ h. inl h) (λ h. inr (omega arith)) p.none }

ones_self : (s : ℕ) → s ≤ 65535 → Ones s s
ones_self s h = record { small = h; times = 0; whole = omega arith; none = ⊎_elim (λ e. inr e) (λ n. inl (omega arith)) (cases_eq s 0) }

-- two folds are enough for a sum of 32 bits
pub ones_folded : (s : ℕ) → s < 4294967296 → Ones s (carried (carried s))
ones_folded s h = ones_carried _ _ (ones_carried _ _ (ones_self _ (omega arith)))

-- adding one word
ones_more : (w s r : ℕ) → w ≤ 65535 → Ones s r → Ones (w + s) (carried (w + r))
ones_more w s r h p =
    let q : Ones (w + r) (carried (w + r)) = ones_carried _ _ (ones_self _ (omega arith)) in
    record { small = q.small; times = p.times + q.times; whole = omega arith; none = ⊎_elim (λ l. inl l) (λ e. inr (omega arith)) q.none }

pub ones_sum_lem : (xs : List ℕ) → Octets xs → Ones (word_sum xs) (ones_sum xs)
ones_sum_lem [] o = ones_self 0 (omega arith)
ones_sum_lem (a ∷ []) o = ones_self (a * 256) (omega (arith, o 0))
ones_sum_lem (a ∷ b ∷ xs) o = ones_more (a * 256 + b) (word_sum xs) (ones_sum xs) (omega (arith, o 0, o 1)) (ones_sum_lem xs (λ i. o (suc (suc i))))

-- what an octet's place counts for
abbrev pub weight : ℕ → ℕ
weight zero = 256
weight (suc zero) = 1
weight (suc (suc i)) = weight i

pub word_sum-set : (xs : List ℕ) (i v : ℕ) → i < length xs → word_sum (set xs i v) + weight i * get_or xs i 0 ≡ word_sum xs + weight i * v
word_sum-set [] i v h = absurd (omega arith)
word_sum-set (a ∷ []) zero v h = omega arith
word_sum-set (a ∷ []) (suc i) v h = absurd (omega arith)
word_sum-set (a ∷ b ∷ xs) zero v h = omega arith
word_sum-set (a ∷ b ∷ xs) (suc zero) v h = omega arith
word_sum-set (a ∷ b ∷ xs) (suc (suc i)) v h = omega (arith, word_sum-set xs i v (omega arith))

-- the sum without the Checksum field
pub word_sum-blanked : (xs : List ℕ) → 8 ≤ length xs → word_sum (blanked xs) + word xs 6 ≡ word_sum xs
word_sum-blanked xs h =
    let one = word_sum-set xs 6 0 (omega arith) in
    let two = word_sum-set (set xs 6 0) 7 0 (simp length-set (omega arith)) in
    let ne : ◌≡◌ {A = ℕ} 7 6 → ⊥ = omega arith in
    let other = get_or-set_other xs 6 7 0 0 ne in
    omega arith

pub octets-set : (xs : List ℕ) (i v : ℕ) → v < 256 → Octets xs → Octets (set xs i v)
octets-set [] i v h o k = o k
octets-set (x ∷ xs) zero v h o zero = h
octets-set (x ∷ xs) zero v h o (suc k) = o (suc k)
octets-set (x ∷ xs) (suc i) v h o zero = o zero
octets-set (x ∷ xs) (suc i) v h o (suc k) = octets-set xs i v h (λ j. o (suc j)) k

pub octets-blanked : (xs : List ℕ) → Octets xs → Octets (blanked xs)
octets-blanked xs o = octets-set (set xs 6 0) 7 0 (omega arith) (octets-set xs 6 0 (omega arith) o)

-- the complement of the folded sum, the field taken off, is the Checksum
pub checksum_is : (xs : List ℕ) (s r : ℕ) → Octets xs → 8 ≤ length xs → s < 4294967296 → s ≡ word_sum xs → r ≡ carried (carried (s - word xs 6)) → 65535 - r ≡ checksum_of xs
checksum_is xs s r o h l is folds =
    let e = word_sum-blanked xs h in
    let rest : s - word xs 6 ≡ word_sum (blanked xs) = omega arith in
    ap (λ t. 65535 - t) (folds ∙ ap (λ t. carried (carried t)) rest ∙ ones_same (word_sum (blanked xs)) _ _ (ones_folded _ (omega arith)) (ones_sum_lem (blanked xs) (octets-blanked xs o)))
