-- An ACK and an Address that are read have as many entries and destinations as their counts say.
use Rattle.std.proofs.Common.{◌≡◌, ℕ, zero, suc, ◌+◌, ◌*◌, ◌≤◌, Bool, true, false, cond, ltb, List, [], ◌∷◌, length, drop, Some, None, Option, refl, ap, ◌∙◌, suc-mul, arith, length-drop}
use Rattle.std.proofs.lemmas.Bool.{le-ltb, cond-false}
use Rattle.std.specs.Option.{option_or}
use Rattle.pdu.specs.Octets.{word}
use Rattle.pdu.specs.Read.{lower, numbers_broken, entry_numbers, entry_broken, entries_broken, entries_if, entry_of, entries_of, destinations_of}
use Rattle.pdu.specs.Types.{destination_size, entry_head}

-- no place at all is none of two
some_lower : (b : Bool) (p q : ℕ) → cond b (Some q) (Some p) ≡ None → ⊥
some_lower true p q h = let z : ◌≡◌ {A = ℕ} 0 1 = cc in omega arith
some_lower false p q h = let z : ◌≡◌ {A = ℕ} 0 1 = cc in omega arith

lower_right : (a b : Option ℕ) → lower a b ≡ None → b ≡ None
lower_right None b h = h
lower_right (Some p) None h = refl
lower_right (Some p) (Some q) h = absurd (some_lower (ltb q p) p q h)

entries_more : (place n : ℕ) (xs : List ℕ) (b r : Option ℕ) → entry_broken place xs ≡ b → option_or b r ≡ None
    → (r ≡ None → length (entries_of n (place + word xs 0) (drop (word xs 0) xs)) ≡ n) → length (entries_if b (entry_of place xs ∷ entries_of n (place + word xs 0) (drop (word xs 0) xs))) ≡ suc n
entries_more place n xs None r is h more = ap suc (more h)
entries_more place n xs (Some p) r is h more = let z : ◌≡◌ {A = ℕ} 0 1 = cc in absurd (omega arith)

pub entries_count : (n place : ℕ) (xs : List ℕ) → entries_broken n place xs ≡ None → length (entries_of n place xs) ≡ n
unfolding entries_of entries_broken
entries_count zero place xs h = refl
entries_count (suc n) place xs h =
    entries_more place n xs (entry_broken place xs) _ refl h
    (λ e. entries_count n (place + word xs 0) (drop (word xs 0) xs) (lower_right (numbers_broken (place + entry_head) (entry_numbers xs)) _ e))

pub destinations_count : (n place reserved : ℕ) (xs : List ℕ) → n * (destination_size + reserved) ≡ length xs → length (destinations_of n place reserved xs) ≡ n
unfolding destinations_of
destinations_count zero place reserved xs h = refl
destinations_count (suc n) place reserved xs h =
    let size = suc-mul n (destination_size + reserved) in
    let more : destination_size ≤ length xs = omega arith in
    ap length (cond-false (ltb (length xs) destination_size) [] _ (le-ltb (length xs) destination_size more))
    ∙ ap suc (destinations_count n (place + (destination_size + reserved)) reserved (drop (destination_size + reserved) xs) (omega (arith, length-drop (destination_size + reserved) xs)))
