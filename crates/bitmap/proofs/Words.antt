-- What words hold: bit by bit, by their counts of set bits and of zeros at either end, and as the words of a test.
-- Nothing here depends on how many words there are.
use Rattle.std.proofs.Common.{◌≡◌, ℕ, zero, suc, ◌+◌, ◌-◌, ◌*◌, ◌/◌, ◌%◌, ◌^◌, ◌<◌, ◌≤◌, Bool, true, false, cond, not, eqb, ◌≢◌, List, length, get_or, set, sym, refl, ap, ◌∙◌, subst, ap₂, inl, inr, ⊎_elim, add-zero, mod-lt, mod-eq_of_lt, pow-suc, div-add-mod', one-add, arith, lit<, get_or-set_other, get_or-set_same, pow_pos, pow_mono}
use native.Mathlib.Nat.{div-eq_of_lt, zero-div}
use lib.Bits.{bit_xor, xor_lt}
use lib.Count.{leading_top, count_leading_zeros, ones, ones_cat, ones_in, count_trailing_zeros, under}
use lib.Pow.{pow-lt}
use Rattle.std.proofs.lemmas.Nat.{div_below, le-div, mod_low, mod-pow-add, shr_high, shr_le, shr-shr}
use Rattle.std.proofs.lemmas.List.FromFn.{fill_by_all, get_or-map-range_with_len, length-map-range_with_len}
use Rattle.std.proofs.lemmas.List.{get_or_past, set_past}
use Rattle.std.proofs.lemmas.Bool.{cases_eq, cases_lt, eq-eqb, ne_eqb}
use Rattle.bitmap.specs.Passing.{tally}
use Rattle.bitmap.specs.Words.{Fitted, bit_of, holds, word_of, words_of}
use Rattle.bitmap.proofs.Bits.{bit_kept, bit_turned, digit_cond, mask_bit}
use Rattle.bitmap.proofs.Counts.{tally_more}

-- ---- one number

holds-none : (ws : List ℕ) → holds ws 0 ≡ false
unfolding holds
holds-none ws = refl

pub holds_at : (ws : List ℕ) (n : ℕ) → 0 < n → holds ws n ≡ bit_of (get_or ws ((n - 1) / 64) 0) ((n - 1) % 64)
unfolding holds
holds_at ws zero h = absurd (let f : ⊥ = omega arith in f)
holds_at ws (suc k) h = let e : suc k - 1 ≡ k = omega arith in rw e refl

-- a number of word j
pub holds_in : (ws : List ℕ) (j k : ℕ) → 64 * j < k → k ≤ 64 * j + 64 → holds ws k ≡ bit_of (get_or ws j 0) (k - 64 * j - 1)
holds_in ws j k a b =
    let q : (k - 1) / 64 ≡ j = omega arith in
    let r : (k - 1) % 64 ≡ k - 64 * j - 1 = omega arith in
    holds_at ws k (omega arith) ∙ ap₂ (λ (x y : ℕ). bit_of (get_or ws x 0) y) q r

-- bit b of word j
pub holds_bit : (ws : List ℕ) (j b : ℕ) → b < 64 → holds ws (64 * j + b + 1) ≡ bit_of (get_or ws j 0) b
holds_bit ws j b h =
    let e : 64 * j + b + 1 - 64 * j - 1 ≡ b = omega arith in
    holds_in ws j (64 * j + b + 1) (omega arith) (omega arith) ∙ ap (bit_of (get_or ws j 0)) e

-- 0 is held by none
pub holds_above : (ws : List ℕ) (n : ℕ) → (0 < n → holds ws n ≡ false) → holds ws n ≡ false
holds_above ws zero h = holds-none ws
holds_above ws (suc n) h = h (omega arith)

-- a number whose word is 0
pub holds_zero : (ws : List ℕ) (n : ℕ) → (0 < n → get_or ws ((n - 1) / 64) 0 ≡ 0) → holds ws n ≡ false
holds_zero ws n z =
    holds_above ws n (λ a. holds_at ws n a ∙ ap (λ (w : ℕ). bit_of w ((n - 1) % 64)) (z a) ∙ ap (λ (x : ℕ). eqb (x % 2) 1) (zero-div (2 ^ ((n - 1) % 64))))

pub holds_past : (ws : List ℕ) (n : ℕ) → 64 * length ws < n → holds ws n ≡ false
holds_past ws n h = holds_zero ws n (λ a. get_or_past ws ((n - 1) / 64) 0 (omega arith))

-- ---- one number turned over

pub turned : (ws : List ℕ) (n m : ℕ) → 0 < n → (n - 1) / 64 < length ws
    → holds (set ws ((n - 1) / 64) (bit_xor (get_or ws ((n - 1) / 64) 0) (2 ^ ((n - 1) % 64)))) m ≡ cond (eqb m n) (not (holds ws m)) (holds ws m)
turned ws n zero a h =
    rw (ne_eqb 0 n (λ q. omega arith))
    (holds-none (set ws ((n - 1) / 64) (bit_xor (get_or ws ((n - 1) / 64) 0) (2 ^ ((n - 1) % 64)))) ∙ sym (holds-none ws))
turned ws n (suc j) a h =
    let i : ℕ = (n - 1) / 64 in
    let b : ℕ = (n - 1) % 64 in
    let w : ℕ = bit_xor (get_or ws i 0) (2 ^ b) in
    let there : 0 < suc j = omega arith in
    elim (cases_eq (suc j) n) [
      | inl e ↦ rw (e, eq-eqb n n refl, holds_at (set ws i w) n a, get_or-set_same ws i w 0 h, holds_at ws n a) (bit_turned (get_or ws i 0) b)
      | inr ne ↦
          rw (ne_eqb (suc j) n ne, holds_at (set ws i w) (suc j) there, holds_at ws (suc j) there)
          (elim (cases_eq ((suc j - 1) / 64) i) [
            | inl e ↦
                (let d : b ≢ (suc j - 1) % 64 = λ m. ne (omega (arith, div-add-mod' (suc j - 1) 64, div-add-mod' (n - 1) 64)) in
                rw (e, get_or-set_same ws i w 0 h) (bit_kept (get_or ws i 0) b ((suc j - 1) % 64) d))
            | inr d ↦ rw (get_or-set_other ws i ((suc j - 1) / 64) w 0 d) refl
          ])
    ]

pub turned_fits : (ws : List ℕ) (i b : ℕ) → b < 64 → Fitted ws → Fitted (set ws i (bit_xor (get_or ws i 0) (2 ^ b)))
turned_fits ws i b h f j =
    elim (cases_eq j i) [
      | inl e ↦
          elim (cases_lt i (length ws)) [
            | inl l ↦ rw (e, get_or-set_same) (xor_lt 64 (get_or ws i 0) (2 ^ b) (f i) (pow-lt h))
            | inr l ↦ rw (e, set_past ws i (bit_xor (get_or ws i 0) (2 ^ b)) l) (f i)
          ]
      | inr n ↦ rw get_or-set_other (f j)
    ]

-- ---- how many numbers: the set bits

small_ones : (x : ℕ) → x < 2 → ones x ≡ x
unfolding ones ones_in
small_ones zero h = refl
small_ones (suc zero) h = refl
small_ones (suc (suc x)) h = absurd (let f : ⊥ = omega arith in f)

ones_more : (w b : ℕ) → ones (w % 2 ^ suc b) ≡ w / 2 ^ b % 2 + ones (w % 2 ^ b)
ones_more w b =
    ap (λ (x : ℕ). ones (w % 2 ^ x)) (sym (one-add b))
    ∙ ap ones (mod-pow-add w 1 b)
    ∙ ones_cat b (w / 2 ^ b % 2) (w % 2 ^ b) (mod-lt w (pow_pos b))
    ∙ ap (λ (x : ℕ). x + ones (w % 2 ^ b)) (small_ones (w / 2 ^ b % 2) (mod-lt (w / 2 ^ b) (lit< tt)))

-- the numbers of the b lowest bits of word j
tally-word : (ws : List ℕ) (j b : ℕ) → b ≤ 64 → tally (holds ws) (64 * j + b) ≡ tally (holds ws) (64 * j) + ones (get_or ws j 0 % 2 ^ b)
tally-word ws j zero h =
    let z : get_or ws j 0 % 2 ^ 0 ≡ 0 = omega arith in
    let o : ones (get_or ws j 0 % 2 ^ 0) ≡ 0 = ap ones z ∙ small_ones 0 (lit< tt) in
    ap (tally (holds ws)) (add-zero (64 * j)) ∙ omega arith
tally-word ws j (suc b) h =
    let w : ℕ = get_or ws j 0 in
    let ih = tally-word ws j b (omega arith) in
    let e : 64 * j + suc b ≡ 64 * j + b + 1 = omega arith in
    let m = tally_more (holds ws) (64 * j + b) in
    let i : cond (holds ws (64 * j + b + 1)) 1 0 ≡ w / 2 ^ b % 2 = ap (λ t. cond t 1 0) (holds_bit ws j b (omega arith)) ∙ digit_cond (w / 2 ^ b % 2) (mod-lt (w / 2 ^ b) (lit< tt)) in
    let o = ones_more w b in
    ap (tally (holds ws)) e ∙ omega arith

-- the numbers of one word more
pub tally-whole : (ws : List ℕ) (j : ℕ) → get_or ws j 0 < 2 ^ 64 → tally (holds ws) (64 * (j + 1)) ≡ tally (holds ws) (64 * j) + ones (get_or ws j 0)
tally-whole ws j h =
    let e : 64 * (j + 1) ≡ 64 * j + 64 = omega arith in
    let f : get_or ws j 0 % 2 ^ 64 ≡ get_or ws j 0 = mod-eq_of_lt h in
    ap (tally (holds ws)) e ∙ tally-word ws j 64 (omega arith) ∙ ap (λ (x : ℕ). tally (holds ws) (64 * j) + ones x) f

-- ---- the greatest number of the b lowest bits of word j: the leading zeros

top_digit : (w j : ℕ) → 2 ^ j ≤ w → w < 2 ^ suc j → w / 2 ^ j ≡ 1
top_digit w j a b =
    let p = pow-suc 2 j in
    let u = div_below w (2 ^ j) 2 (pow_pos j) (omega arith) in
    let l = le-div 1 w (2 ^ j) (pow_pos j) (omega arith) in
    omega arith

pub top_under : (ws : List ℕ) (j b m : ℕ) → b ≤ 64 → m ≡ get_or ws j 0 % 2 ^ b → 0 < m
    → (0 < 64 - count_leading_zeros 64 m) × (64 - count_leading_zeros 64 m ≤ b) × (holds ws (64 * j + (64 - count_leading_zeros 64 m)) ≡ true)
    × ((k : ℕ) → 64 * j + (64 - count_leading_zeros 64 m) < k → k ≤ 64 * j + b → holds ws k ≡ false)
top_under ws j b m h e p =
    let w : ℕ = get_or ws j 0 in
    let lt : m < 2 ^ b = subst (λ (x : ℕ). x < 2 ^ b) (sym e) (mod-lt w (pow_pos b)) in
    let up : 2 ^ b ≤ 2 ^ 64 = pow_mono h in
    let t = leading_top 64 m p (omega arith) in
    let i : ℕ = t.0 in
    let s : 64 - count_leading_zeros 64 m ≡ i + 1 = omega (arith, t.1) in
    let ib : i < b = ⊎_elim (λ a. a) (λ a. absurd (let g : 2 ^ b ≤ 2 ^ i = pow_mono a in let f : ⊥ = omega (arith, t.2) in f)) (cases_lt i b) in
    let at : (c : ℕ) → c < b → bit_of w c ≡ eqb (m / 2 ^ c % 2) 1 = λ c l. ap (λ (x : ℕ). eqb x 1) (sym (mask_bit w b c l) ∙ ap (λ (x : ℕ). x / 2 ^ c % 2) (sym e)) in
    rw s (
      omega arith,
      omega arith,
      (let c : 64 * j + (i + 1) ≡ 64 * j + i + 1 = omega arith in
          ap (holds ws) c ∙ holds_bit ws j i (omega arith) ∙ at i ib ∙ ap (λ (x : ℕ). eqb (x % 2) 1) (top_digit m i t.2 t.3)),
      λ k l g.
          (let c : ℕ = k - 64 * j - 1 in
          let more : 2 ^ suc i ≤ 2 ^ c = pow_mono (omega arith) in
          let z : m / 2 ^ c ≡ 0 = div-eq_of_lt (omega (arith, t.3)) in
          holds_in ws j k (omega arith) (omega arith) ∙ at c (omega arith) ∙ ap (λ (x : ℕ). eqb (x % 2) 1) z),
    )

-- ---- the lowest number of word j from bit s on: the trailing zeros

half : (n t : ℕ) → n / 2 ^ suc t ≡ n / 2 / 2 ^ t
half n t = sym (shr-shr n 1 t ∙ ap (λ (x : ℕ). n / 2 ^ x) (one-add t))

abbrev Low : ℕ → ℕ → ℕ → Type 0
Low k n t = (t < k) × (n / 2 ^ t % 2 ≡ 1) × ((c : ℕ) → c < t → n / 2 ^ c % 2 ≡ 0)

low_under : (n t : ℕ) → n % 2 ≡ 0 → ((c : ℕ) → c < t → n / 2 / 2 ^ c % 2 ≡ 0) → (c : ℕ) → c < suc t → n / 2 ^ c % 2 ≡ 0
low_under n t e h zero l = omega arith
low_under n t e h (suc c) l = rw (half n c) (h c (omega arith))

low_step : (k n d : ℕ) → n % 2 ≡ d → 0 < n → (0 < n / 2 → Low k (n / 2) (count_trailing_zeros k (n / 2))) → Low (suc k) n (under d (count_trailing_zeros k (n / 2)))
low_step k n zero e p rest =
    let ih = rest (omega arith) in
    let t : ℕ = count_trailing_zeros k (n / 2) in
    (omega (arith, ih.0), rw (half n t) ih.1, low_under n t e ih.2)
low_step k n (suc d) e p rest = (omega arith, omega arith, λ c l. absurd (let f : ⊥ = omega arith in f))

low_bit : (k n : ℕ) → 0 < n → n < 2 ^ k → Low k n (count_trailing_zeros k n)
unfolding count_trailing_zeros
low_bit zero n p h = absurd (let f : ⊥ = omega arith in f)
low_bit (suc k) n p h =
    low_step k n (n % 2) refl p (λ q. low_bit k (n / 2) q (let s = pow-suc 2 k in div_below n 2 (2 ^ k) (lit< tt) (omega arith)))

-- none where these bits are 0
pub none_over : (ws : List ℕ) (j s m : ℕ) → m ≡ get_or ws j 0 / 2 ^ s → m ≡ 0 → (k : ℕ) → 64 * j + s < k → k ≤ 64 * j + 64 → holds ws k ≡ false
none_over ws j s m e z k l g =
    let w : ℕ = get_or ws j 0 in
    let c : ℕ = k - 64 * j - 1 - s in
    let d : k - 64 * j - 1 ≡ s + c = omega arith in
    let q : w / 2 ^ s ≡ 0 = sym e ∙ z in
    holds_in ws j k (omega arith) g
    ∙ ap (bit_of w) d
    ∙ ap (λ (x : ℕ). eqb (x % 2) 1) (sym (shr-shr w s c) ∙ ap (λ (x : ℕ). x / 2 ^ c) q ∙ zero-div (2 ^ c))

pub low_over : (ws : List ℕ) (j s m : ℕ) → m ≡ get_or ws j 0 / 2 ^ s → get_or ws j 0 < 2 ^ 64 → s < 64 → 0 < m
    → (s + count_trailing_zeros 64 m < 64) × (holds ws (64 * j + s + 1 + count_trailing_zeros 64 m) ≡ true)
    × ((k : ℕ) → 64 * j + s < k → k < 64 * j + s + 1 + count_trailing_zeros 64 m → holds ws k ≡ false)
low_over ws j s m e fits h p =
    let w : ℕ = get_or ws j 0 in
    let t : ℕ = count_trailing_zeros 64 m in
    let mw : m < 2 ^ 64 = omega (arith, shr_le w s) in
    let b = low_bit 64 m p mw in
    let at : (c : ℕ) → bit_of w (s + c) ≡ eqb (m / 2 ^ c % 2) 1 = λ c. ap (λ (x : ℕ). eqb (x % 2) 1) (sym (ap (λ (x : ℕ). x / 2 ^ c) e ∙ shr-shr w s c)) in
    let st : s + t < 64 =
    ⊎_elim (λ a. a)
    (λ a. absurd (let up : 2 ^ 64 ≤ 2 ^ (s + t) = pow_mono a in
    let z : w / 2 ^ (s + t) ≡ 0 = div-eq_of_lt (omega arith) in
    let f : ⊥ = omega (arith, ap (λ (x : ℕ). x % 2) (ap (λ (x : ℕ). x / 2 ^ t) e ∙ shr-shr w s t ∙ z), b.1) in f))
    (cases_lt (s + t) 64) in (
      st,
      (let c : 64 * j + s + 1 + t ≡ 64 * j + (s + t) + 1 = omega arith in
          ap (holds ws) c ∙ holds_bit ws j (s + t) st ∙ at t ∙ ap (λ (x : ℕ). eqb x 1) b.1),
      λ k l g.
          (let c : ℕ = k - 64 * j - 1 - s in
          let d : k - 64 * j - 1 ≡ s + c = omega arith in
          holds_in ws j k (omega arith) (omega arith) ∙ ap (bit_of w) d ∙ at c ∙ ap (λ (x : ℕ). eqb x 1) (b.2 c (omega arith))),
    )

-- ---- the words of a test

-- the n lowest bits of a word that are those of a test
word_is : (p : ℕ → Bool) (a w n : ℕ) → ((b : ℕ) → b < n → bit_of w b ≡ p (a + suc b)) → w % 2 ^ n ≡ word_of p a n
unfolding word_of
word_is p a w zero h = omega arith
word_is p a w (suc n) h =
    let d : ℕ = w / 2 ^ n % 2 in
    let s : w % 2 ^ suc n ≡ d * 2 ^ n + w % 2 ^ n = ap (λ (i : ℕ). w % 2 ^ i) (sym (one-add n)) ∙ mod-pow-add w 1 n in
    let c : cond (p (a + suc n)) (2 ^ n) 0 ≡ d * 2 ^ n = ap (λ b. cond b (2 ^ n) 0) (sym (h n (omega arith))) ∙ digit_times d (2 ^ n) (mod-lt (w / 2 ^ n) (lit< tt)) in
    omega (arith, word_is p a w n (λ b l. h b (omega arith)))
  where
    digit_times : (x y : ℕ) → x < 2 → cond (eqb x 1) y 0 ≡ x * y
    digit_times zero y l = omega arith
    digit_times (suc zero) y l = omega arith
    digit_times (suc (suc x)) y l = absurd (let f : ⊥ = omega arith in f)

cond_times : (b : Bool) (x : ℕ) → cond b x 0 ≡ cond b 1 0 * x
cond_times true x = omega arith
cond_times false x = omega arith

word_lt : (p : ℕ → Bool) (a n : ℕ) → word_of p a n < 2 ^ n
unfolding word_of
word_lt p a zero = omega arith
word_lt p a (suc n) =
    elim (p (a + suc n)) as (λ b. word_of p a n + cond b (2 ^ n) 0 < 2 ^ suc n)
    [ true ↦ omega (arith, word_lt p a n, pow-suc 2 n) | false ↦ omega (arith, word_lt p a n, pow-suc 2 n) ]

word_bit : (p : ℕ → Bool) (a n b : ℕ) → b < n → bit_of (word_of p a n) b ≡ p (a + suc b)
unfolding word_of
word_bit p a zero b h = absurd (let f : ⊥ = omega arith in f)
word_bit p a (suc n) b h =
    let c : ℕ = cond (p (a + suc n)) 1 0 in
    let l = word_lt p a n in
    let e : word_of p a n + cond (p (a + suc n)) (2 ^ n) 0 ≡ c * 2 ^ n + word_of p a n = omega (arith, cond_times (p (a + suc n)) (2 ^ n)) in
    elim (cases_eq b n) [
      | inl z ↦
          ap (λ (x : ℕ). bit_of x b) e ∙ ap (bit_of (c * 2 ^ n + word_of p a n)) z
          ∙ ap (λ (x : ℕ). eqb (x % 2) 1) (shr_high c n (word_of p a n) l)
          ∙ one_bit (p (a + suc n)) ∙ ap (λ (x : ℕ). p (a + suc x)) (sym z)
      | inr ne ↦
          ap (λ (x : ℕ). bit_of x b) e
          ∙ ap (λ (x : ℕ). eqb x 1) (sym (mask_bit (c * 2 ^ n + word_of p a n) n b (omega arith)) ∙ ap (λ (x : ℕ). x / 2 ^ b % 2) (mod_low c n (word_of p a n) l))
          ∙ word_bit p a n b (omega arith)
    ]
  where
    one_bit : (t : Bool) → eqb (cond t 1 0 % 2) 1 ≡ t
    one_bit true = refl
    one_bit false = refl

pub length_words_of : (p : ℕ → Bool) (n : ℕ) → length (words_of p n) ≡ n
unfolding words_of
length_words_of p n = length-map-range_with_len (λ j. word_of p (64 * j) 64) 0 n

word_of_lem : (p : ℕ → Bool) (n j : ℕ) → j < n → get_or (words_of p n) j 0 ≡ word_of p (64 * j) 64
unfolding words_of
word_of_lem p n j h = get_or-map-range_with_len (λ j. word_of p (64 * j) 64) 0 n j j 0 h (omega arith)

pub words_of_fits : (p : ℕ → Bool) (n : ℕ) → Fitted (words_of p n)
words_of_fits p n j =
    elim (cases_lt j n) [
      | inl l ↦ rw (word_of_lem p n j l) (word_lt p (64 * j) 64)
      | inr l ↦ (let e : length (words_of p n) ≤ j = omega (arith, length_words_of p n) in rw (get_or_past (words_of p n) j 0 e) (lit< tt))
    ]

-- they hold the numbers that pass
pub holds_words_of : (p : ℕ → Bool) (n k : ℕ) → 0 < k → k ≤ 64 * n → holds (words_of p n) k ≡ p k
holds_words_of p n k a b =
    let j : ℕ = (k - 1) / 64 in
    let c : ℕ = (k - 1) % 64 in
    let e : 64 * j + suc c ≡ k = omega arith in
    holds_at (words_of p n) k a ∙ ap (λ (x : ℕ). bit_of x c) (word_of_lem p n j (omega arith)) ∙ word_bit p (64 * j) 64 c (omega arith) ∙ ap p e

-- and no others do
pub words_of_is : (ws : List ℕ) (p : ℕ → Bool) (n : ℕ) → length ws ≡ n → Fitted ws → ((k : ℕ) → 0 < k → k ≤ 64 * n → holds ws k ≡ p k) → ws ≡ words_of p n
unfolding words_of
words_of_is ws p n l f h =
    fill_by_all (λ j. word_of p (64 * j) 64) ws n 0 l
    (λ j g. sym (mod-eq_of_lt (f j)) ∙ word_is p (64 * j) (get_or ws j 0) 64
    (λ b g'.
    let e : 64 * j + b + 1 ≡ 64 * j + suc b = omega arith in
    sym (holds_bit ws j b g') ∙ h (64 * j + b + 1) (omega arith) (omega arith) ∙ ap p e))
