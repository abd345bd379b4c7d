-- Single bits of a word: of a power of two, of a word turned over at one bit, of what the operations on words give.
use Rattle.std.proofs.Common.{◌≡◌, ℕ, zero, suc, ◌+◌, ◌-◌, ◌*◌, ◌/◌, ◌%◌, ◌^◌, ◌<◌, ◌≤◌, Bool, true, false, cond, not, ◌&&◌, ◌||◌, eqb, ◌≢◌, sym, refl, ap, ◌∙◌, subst, inl, inr, mod-lt, add-mul, pow-suc, arith, lit<, pow_pos, pow_mono, pow-add}
use native.Mathlib.Nat.{div-eq_of_lt, div_self, mul-mod_left}
use lib.Pow.{ones_split, pow-lt, shl-shr}
use lib.Bits.{and_mod, and_shr, bit_and, bit_or, bit_xor, or_mod, or_shr, xor_mod, xor_shr}
use Rattle.std.proofs.lemmas.Nat.{field_of, mod-pow-add, shr_below, shr_high, shr_split}
use Rattle.std.proofs.lemmas.Bool.{cases_lt}
use Rattle.bitmap.specs.Words.{bit_of}

-- a digit is 0 or 1, and the test tells which
pub digit_cond : (x : ℕ) → x < 2 → cond (eqb x 1) 1 0 ≡ x
digit_cond zero h = refl
digit_cond (suc zero) h = refl
digit_cond (suc (suc x)) h = absurd (let f : ⊥ = omega arith in f)

-- ---- bit b of 2 ^ a

bit_self : (a : ℕ) → 2 ^ a / 2 ^ a % 2 ≡ 1
bit_self a = rw (div_self (pow_pos a)) refl

bit_other : (a b : ℕ) → a ≢ b → 2 ^ a / 2 ^ b % 2 ≡ 0
bit_other a b ne =
    elim (cases_lt a b) [
      | inl l ↦ (let e : 2 ^ a / 2 ^ b ≡ 0 = div-eq_of_lt (pow-lt l) in rw e refl)
      | inr g ↦
          (let k : ℕ = a - b - 1 in
          let e : a ≡ suc k + b = omega arith in
          rw (e, pow-add 2 (suc k) b, shl-shr (2 ^ suc k) b, pow-suc 2 k) (mul-mod_left (2 ^ k) 2))
    ]

-- ---- what an operation on digits does to bits

two_digits : (f : ℕ → ℕ → ℕ) (g : Bool → Bool → Bool)
    → eqb (f 0 0) 1 ≡ g false false → eqb (f 0 1) 1 ≡ g false true → eqb (f 1 0) 1 ≡ g true false → eqb (f 1 1) 1 ≡ g true true
    → (x y : ℕ) → x < 2 → y < 2 → eqb (f x y) 1 ≡ g (eqb x 1) (eqb y 1)
two_digits f g a b c d zero zero h k = a
two_digits f g a b c d zero (suc zero) h k = b
two_digits f g a b c d (suc zero) zero h k = c
two_digits f g a b c d (suc zero) (suc zero) h k = d
two_digits f g a b c d zero (suc (suc y)) h k = absurd (let z : ⊥ = omega arith in z)
two_digits f g a b c d (suc zero) (suc (suc y)) h k = absurd (let z : ⊥ = omega arith in z)
two_digits f g a b c d (suc (suc x)) y h k = absurd (let z : ⊥ = omega arith in z)

-- an operation that goes bit by bit, and its truth table
bit_by_bit : (f : ℕ → ℕ → ℕ) (g : Bool → Bool → Bool)
    → ((a b k : ℕ) → f a b / 2 ^ k ≡ f (a / 2 ^ k) (b / 2 ^ k)) → ((a b k : ℕ) → f a b % 2 ^ k ≡ f (a % 2 ^ k) (b % 2 ^ k))
    → eqb (f 0 0) 1 ≡ g false false → eqb (f 0 1) 1 ≡ g false true → eqb (f 1 0) 1 ≡ g true false → eqb (f 1 1) 1 ≡ g true true
    → (w v b : ℕ) → bit_of (f w v) b ≡ g (bit_of w b) (bit_of v b)
bit_by_bit f g shr low tl tr bl br w v b =
    ap (λ (x : ℕ). eqb x 1) (ap (λ (x : ℕ). x % 2) (shr w v b) ∙ low (w / 2 ^ b) (v / 2 ^ b) 1)
    ∙ two_digits f g tl tr bl br (w / 2 ^ b % 2) (v / 2 ^ b % 2) (mod-lt (w / 2 ^ b) (lit< tt)) (mod-lt (v / 2 ^ b) (lit< tt))

pub bit_and_lem : (w v b : ℕ) → bit_of (bit_and w v) b ≡ (bit_of w b && bit_of v b)
bit_and_lem = bit_by_bit bit_and ◌&&◌ and_shr and_mod refl refl refl refl

pub bit_or_lem : (w v b : ℕ) → bit_of (bit_or w v) b ≡ (bit_of w b || bit_of v b)
bit_or_lem = bit_by_bit bit_or ◌||◌ or_shr or_mod refl refl refl refl

-- a word turned over at bit a
pub bit_turned : (w a : ℕ) → bit_of (bit_xor w (2 ^ a)) a ≡ not (bit_of w a)
bit_turned w a = bit_by_bit bit_xor (λ x y. cond y (not x) x) xor_shr xor_mod refl refl refl refl w (2 ^ a) a ∙ ap (λ (x : ℕ). cond (eqb x 1) (not (bit_of w a)) (bit_of w a)) (bit_self a)

pub bit_kept : (w a b : ℕ) → a ≢ b → bit_of (bit_xor w (2 ^ a)) b ≡ bit_of w b
bit_kept w a b ne = bit_by_bit bit_xor (λ x y. cond y (not x) x) xor_shr xor_mod refl refl refl refl w (2 ^ a) b ∙ ap (λ (x : ℕ). cond (eqb x 1) (not (bit_of w b)) (bit_of w b)) (bit_other a b ne)

-- ---- all n bits turned over

pub bit_not : (n w b : ℕ) → w < 2 ^ n → b < n → bit_of (2 ^ n - 1 - w) b ≡ not (bit_of w b)
bit_not n w b h l =
    let i : ℕ = n - b - 1 in
    let e : n ≡ suc i + b = omega arith in
    let q : ℕ = w / 2 ^ b in
    let g : w < 2 ^ (suc i + b) = subst (λ (x : ℕ). w < 2 ^ x) e h in
    let s : (2 ^ (suc i + b) - 1 - w) / 2 ^ b ≡ 2 ^ suc i - 1 - q = high_part (suc i) b w g in
    rw e
    (ap (λ (x : ℕ). eqb (x % 2) 1) (s ∙ ap (λ (x : ℕ). x - 1 - q) (pow-suc 2 i))
    ∙ ap (λ (x : ℕ). eqb x 1) (parity (2 ^ i) q (pow_pos i) (subst (λ (x : ℕ). q < x) (pow-suc 2 i) (shr_below w (suc i) b g)))
    ∙ other_digit (q % 2) (mod-lt q (lit< tt)))
  where
    parity : (x y : ℕ) → 0 < x → y < x * 2 → (x * 2 - 1 - y) % 2 ≡ 1 - y % 2
    parity x y p l = omega arith

    other_digit : (x : ℕ) → x < 2 → eqb (1 - x) 1 ≡ not (eqb x 1)
    other_digit zero p = refl
    other_digit (suc zero) p = refl
    other_digit (suc (suc x)) p = absurd (let f : ⊥ = omega arith in f)

    high_part : (i b w : ℕ) → w < 2 ^ (i + b) → (2 ^ (i + b) - 1 - w) / 2 ^ b ≡ 2 ^ i - 1 - w / 2 ^ b
    high_part i b w h =
        let d : ℕ = 2 ^ i - 1 - w / 2 ^ b in
        let s = ones_split i b in
        let r = shr_split w b in
        let p = pow_pos b in
        let l = mod-lt w (pow_pos b) in
        let k = shr_below w i b h in
        let e : w / 2 ^ b + d ≡ 2 ^ i - 1 = omega arith in
        let m : (2 ^ i - 1) * 2 ^ b ≡ w / 2 ^ b * 2 ^ b + d * 2 ^ b = ap (λ (x : ℕ). x * 2 ^ b) (sym e) ∙ add-mul (w / 2 ^ b) d (2 ^ b) in
        let f : 2 ^ (i + b) - 1 - w ≡ d * 2 ^ b + (2 ^ b - 1 - w % 2 ^ b) = omega arith in
        ap (λ (x : ℕ). x / 2 ^ b) f ∙ shr_high d b (2 ^ b - 1 - w % 2 ^ b) (omega arith)

-- ---- the b lowest bits set

pub low_set : (b c : ℕ) → c < b → (2 ^ b - 1) / 2 ^ c % 2 ≡ 1
low_set b c h =
    let i : ℕ = b - c - 1 in
    let e : b ≡ suc i + c = omega arith in
    let q = pow_pos c in
    rw (e, ones_split (suc i) c, shr_high (2 ^ suc i - 1) c (2 ^ c - 1) (omega arith), pow-suc 2 i) (odd (2 ^ i) (pow_pos i))
  where
    odd : (x : ℕ) → 0 < x → (x * 2 - 1) % 2 ≡ 1
    odd x p = omega arith

pub low_unset : (b c : ℕ) → b ≤ c → (2 ^ b - 1) / 2 ^ c % 2 ≡ 0
low_unset b c h =
    let p = pow_pos b in
    let m : 2 ^ b ≤ 2 ^ c = pow_mono h in
    let z : (2 ^ b - 1) / 2 ^ c ≡ 0 = div-eq_of_lt (omega arith) in
    rw z refl

-- the b lowest bits alone
pub mask_bit : (w b c : ℕ) → c < b → w % 2 ^ b / 2 ^ c % 2 ≡ w / 2 ^ c % 2
mask_bit w b c h =
    let i : ℕ = b - c - 1 in
    let e : b ≡ i + 1 + c = omega arith in
    let x : ℕ = w / 2 ^ c in
    rw e
    (ap (λ (y : ℕ). y % 2) (field_of w (i + 1) c)
    ∙ ap (λ (y : ℕ). y % 2) (mod-pow-add x i 1)
    ∙ even_odd (x / 2 ^ 1 % 2 ^ i) (x % 2 ^ 1) (mod-lt x (lit< tt)))
  where
    even_odd : (y r : ℕ) → r < 2 → (y * 2 + r) % 2 ≡ r
    even_odd y r p = omega arith
