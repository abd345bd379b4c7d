-- The first place of a list whose element passes a test, by the definition and by the relation.
use Rattle.std.proofs.Common.{◌≡◌, ℕ, zero, suc, ◌+◌, ◌<◌, Bool, false, cond, List, [], ◌∷◌, length, get_or, Some, None, Option, refl, ap, ◌∙◌, inl, inr, arith}
use Rattle.std.specs.List.{position, position_from}
use Rattle.std.specs.Option.{option_map}
use Rattle.std.proofs.lemmas.Iterator.Adapters.{position_from-zero}
use Rattle.std.proofs.lemmas.Bool.{both_ways, cases_Bool, cases_order}
use Rattle.parts.specs.Places.{First, first_from, first_place}

-- a place more at the front
first_more : {X : Type 0} (p : X → Bool) (x : X) (xs : List X) (o : Option ℕ) → p x ≡ false → First p xs o → First p (x ∷ xs) (option_map suc o)
first_more {X} p x xs None n h = none
  where
    none : (k : ℕ) (d : X) → k < length (x ∷ xs) → p (get_or (x ∷ xs) k d) ≡ false
    none zero d l = n
    none (suc k) d l = h k d (omega arith)
first_more {X} p x xs (Some b) n h = (omega (arith, h.0), h.1, before)
  where
    before : (k : ℕ) (d : X) → k < suc b → p (get_or (x ∷ xs) k d) ≡ false
    before zero d l = n
    before (suc k) d l = h.2 k d (omega arith)

-- the place where a list begins is added to each place
from_shift : {X : Type 0} (p : X → Bool) (i : ℕ) (xs : List X) → first_from p (i + 1) xs ≡ option_map suc (first_from p i xs)
unfolding first_from
from_shift p i [] = refl
from_shift p i (x ∷ xs) =
    elim (cases_Bool (p x)) [
      | inl t ↦ (let e : i + 1 ≡ suc i = omega arith in rw (t, e) refl)
      | inr n ↦ rw n (from_shift p (i + 1) xs)
    ]

pub first-stands : {X : Type 0} (p : X → Bool) (xs : List X) → First p xs (first_place p xs)
unfolding first_place first_from
first-stands p [] = λ k d l. absurd (let f : ⊥ = omega arith in f)
first-stands p (x ∷ xs) =
    elim (cases_Bool (p x)) [
      | inl t ↦ rw t (omega arith, (λ _. t), λ k d l. absurd (let f : ⊥ = omega arith in f))
      | inr n ↦ rw (n, from_shift p 0 xs) (first_more p x xs (first_from p 0 xs) n (first-stands p xs))
    ]

-- the relation has one answer
one_first : {X : Type 0} (p : X → Bool) (xs : List X) (d : X) (o q : Option ℕ) → First p xs o → First p xs q → o ≡ q
one_first p xs d None None h k = refl
one_first p xs d None (Some c) h k = absurd (both_ways (p (get_or xs c d)) (h c d k.0) (k.1 d))
one_first p xs d (Some b) None h k = absurd (both_ways (p (get_or xs b d)) (k b d h.0) (h.1 d))
one_first p xs d (Some b) (Some c) h k =
    elim (cases_order b c) [
      | inl e ↦ ap Some e
      | inr (inl l) ↦ absurd (both_ways (p (get_or xs b d)) (k.2 b d l) (h.1 d))
      | inr (inr l) ↦ absurd (both_ways (p (get_or xs c d)) (h.2 c d l) (k.1 d))
    ]

pub first_is : {X : Type 0} (p : X → Bool) (xs : List X) (o : Option ℕ) → First p xs o → o ≡ first_place p xs
unfolding first_place first_from
first_is p [] None h = refl
first_is p [] (Some b) h = absurd (let f : ⊥ = omega (arith, h.0) in f)
first_is p (x ∷ xs) o h = one_first p (x ∷ xs) x o (first_place p (x ∷ xs)) h (first-stands p (x ∷ xs))

-- std's word for it
position_from-first : {X : Type 0} (p : X → Bool) (i : ℕ) (xs : List X) → position_from p i xs ≡ first_from p i xs
unfolding first_from
position_from-first p i [] = refl
position_from-first p i (x ∷ xs) = ap (cond (p x) (Some i)) (position_from-first p (i + 1) xs)

pub first_position : {X : Type 0} (p : X → Bool) (xs : List X) → position p xs ≡ first_place p xs
unfolding first_place
first_position p xs = position_from-zero p xs ∙ position_from-first p 0 xs
