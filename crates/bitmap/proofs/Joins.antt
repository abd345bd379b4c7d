-- Words made word by word: two joined bit by bit, and the words of 1 to t.
use Rattle.std.proofs.Common.{◌≡◌, ℕ, ◌-◌, ◌*◌, ◌/◌, ◌%◌, ◌^◌, ◌<◌, ◌≤◌, min, Bool, leb, List, get_or, sym, ap, ◌∙◌, ap₂, inl, inr, arith}
use Rattle.std.proofs.lemmas.Bool.{cases_lt, eq-eqb, le-leb, lt-leb, ne_eqb}
use Rattle.bitmap.specs.Words.{bit_of, holds}
use Rattle.bitmap.proofs.Bits.{low_set, low_unset}
use Rattle.bitmap.proofs.Words.{holds_at}

-- words each of whose bits is g of the bits of two others
pub joined-holds : (g : Bool → Bool → Bool) (us vs ws : List ℕ) (n : ℕ)
    → ((j : ℕ) → j < n → (b : ℕ) → b < 64 → bit_of (get_or ws j 0) b ≡ g (bit_of (get_or us j 0) b) (bit_of (get_or vs j 0) b))
    → (k : ℕ) → 0 < k → k ≤ 64 * n → holds ws k ≡ g (holds us k) (holds vs k)
joined-holds g us vs ws n each k a l =
    holds_at ws k a ∙ each ((k - 1) / 64) (omega arith) ((k - 1) % 64) (omega arith) ∙ sym (ap₂ g (holds_at us k a) (holds_at vs k a))

-- words of which word j has its t - 64 * j lowest bits set
pub front_holds : (ws : List ℕ) (t n : ℕ) → ((j : ℕ) → j < n → get_or ws j 0 ≡ 2 ^ min (t - 64 * j) 64 - 1)
    → (k : ℕ) → 0 < k → k ≤ 64 * n → holds ws k ≡ leb k t
front_holds ws t n each k a l =
    let j : ℕ = (k - 1) / 64 in
    let b : ℕ = (k - 1) % 64 in
    let s : ℕ = min (t - 64 * j) 64 in
    let e : bit_of (get_or ws j 0) b ≡ bit_of (2 ^ s - 1) b = ap (λ (x : ℕ). bit_of x b) (each j (omega arith)) in
    elim (cases_lt t k) [
      | inl g ↦ (let u = low_unset s b (omega arith) in holds_at ws k a ∙ e ∙ ne_eqb ((2 ^ s - 1) / 2 ^ b % 2) 1 (λ v. omega arith) ∙ sym (lt-leb k t g))
      | inr g ↦ holds_at ws k a ∙ e ∙ eq-eqb ((2 ^ s - 1) / 2 ^ b % 2) 1 (low_set s b (omega arith)) ∙ sym (le-leb k t g)
    ]
