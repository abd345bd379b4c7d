-- The foremost by the definition and by the relation.
use Rattle.std.proofs.Common.{◌≡◌, ℕ, zero, suc, ◌+◌, ◌<◌, Bool, true, false, cond, List, [], ◌∷◌, map, length, get_or, Some, None, Option, refl, ap, ◌∙◌, subst, inl, inr, arith}
use Rattle.std.proofs.lemmas.Bool.{both_ways, cases_Bool, cases_order, cond_both, cond-false, cond-true}
use Rattle.std.specs.Option.{option_map}
use Rattle.parts.specs.Foremost.{Foremost, ahead_if, ahead_of, foremost_from, foremost_of}

-- ---- the foremost by the relation and by the definition are the same

-- the relation has one answer
pub foremost_one : {X : Type 0} (w : X → Bool) (a : X → X → Bool) (xs : List X) (n : ℕ) (d : X) (o q : Option ℕ)
    → Foremost w a xs n o → Foremost w a xs n q → o ≡ q
foremost_one w a xs n d None None h k = refl
foremost_one w a xs n d None (Some c) h k = absurd (both_ways (w (get_or xs c d)) (h c d k.0) (k.1 d))
foremost_one w a xs n d (Some b) None h k = absurd (both_ways (w (get_or xs b d)) (k b d h.0) (h.1 d))
foremost_one w a xs n d (Some b) (Some c) h k =
    elim (cases_order b c) [
      | inl e ↦ ap Some e
      | inr (inl l) ↦ absurd (both_ways (a (get_or xs c d) (get_or xs b d)) (h.2 c d k.0 (k.1 d)) (k.3 b d l (h.1 d)))
      | inr (inr l) ↦ absurd (both_ways (a (get_or xs b d) (get_or xs c d)) (k.2 b d h.0 (h.1 d)) (h.3 c d l (k.1 d)))
    ]

-- what the definition gives for a list that begins at place i: an element y of place j
record Found {X : Type 0} (w : X → Bool) (a : X → X → Bool) (i : ℕ) (xs : List X) (j : ℕ) (y : X) : Type 0 where
  at : ℕ
  place : i + at ≡ j
  long : at < length xs
  waits : w y ≡ true
  here : (d : X) → get_or xs at d ≡ y
  none_ahead : (k : ℕ) (d : X) → k < length xs → w (get_or xs k d) ≡ true → a (get_or xs k d) y ≡ false
  ahead_of_others : (k : ℕ) (d : X) → k < at → w (get_or xs k d) ≡ true → a y (get_or xs k d) ≡ true

abbrev Chosen : {X : Type 0} (w : X → Bool) (a : X → X → Bool) → ℕ → List X → Option (ℕ × X) → Type 0
Chosen {X} w a i xs None = (k : ℕ) (d : X) → k < length xs → w (get_or xs k d) ≡ false
Chosen w a i xs (Some (j, y)) = Found w a i xs j y

module _ {X : Type 0} (w : X → Bool) (a : X → X → Bool)
    (one : (x y : X) → a x y ≡ true → a y x ≡ false)
    (chain : (x y z : X) → a x y ≡ false → a y z ≡ false → a x z ≡ false) where
  self_not : (x : X) → a x x ≡ false
  self_not x = elim (cases_Bool (a x x)) [ inl t ↦ one x x t | inr f ↦ f ]

  -- an element in front that does not wait, or that the foremost behind it is ahead of
  behind : (i j : ℕ) (x y : X) (xs : List X) → (w x ≡ true → a y x ≡ true) → Found w a (i + 1) xs j y → Found w a i (x ∷ xs) j y
  behind i j x y xs f h = record {
    at = suc h.at;
    place = omega (arith, h.place);
    long = omega (arith, h.long);
    waits = h.waits;
    here = h.here;
    none_ahead = rest;
    ahead_of_others = before;
  }
    where
      rest : (k : ℕ) (d : X) → k < length (x ∷ xs) → w (get_or (x ∷ xs) k d) ≡ true → a (get_or (x ∷ xs) k d) y ≡ false
      rest zero d l t = one y x (f t)
      rest (suc k) d l t = h.none_ahead k d (omega arith) t

      before : (k : ℕ) (d : X) → k < suc h.at → w (get_or (x ∷ xs) k d) ≡ true → a y (get_or (x ∷ xs) k d) ≡ true
      before zero d l t = f t
      before (suc k) d l t = h.ahead_of_others k d (omega arith) t

  -- one that waits and that nothing behind it is ahead of
  front : (i : ℕ) (x : X) (xs : List X) → w x ≡ true → ((k : ℕ) (d : X) → k < length xs → w (get_or xs k d) ≡ true → a (get_or xs k d) x ≡ false) → Found w a i (x ∷ xs) i x
  front i x xs t h = record {
    at = 0;
    place = omega arith;
    long = omega arith;
    waits = t;
    here = λ _. refl;
    none_ahead = rest;
    ahead_of_others = λ k d l _. absurd (let f : ⊥ = omega arith in f);
  }
    where
      rest : (k : ℕ) (d : X) → k < length (x ∷ xs) → w (get_or (x ∷ xs) k d) ≡ true → a (get_or (x ∷ xs) k d) x ≡ false
      rest zero d l _ = self_not x
      rest (suc k) d l u = h k d (omega arith) u

  chosen_more : (i : ℕ) (x : X) (xs : List X) (o : Option (ℕ × X)) → Chosen w a (i + 1) xs o → Chosen w a i (x ∷ xs) (ahead_if (w x) a i x o)
  chosen_more i x xs o h =
      elim (cases_Bool (w x)) [
        | inl t ↦ rw t (waiting o h t)
        | inr n ↦ rw n (passing o h n)
      ]
    where
      none_waits : ((k : ℕ) (d : X) → k < length xs → w (get_or xs k d) ≡ false) → w x ≡ false → (k : ℕ) (d : X) → k < length (x ∷ xs) → w (get_or (x ∷ xs) k d) ≡ false
      none_waits h n zero d l = n
      none_waits h n (suc k) d l = h k d (omega arith)

      passing : (o : Option (ℕ × X)) → Chosen w a (i + 1) xs o → w x ≡ false → Chosen w a i (x ∷ xs) o
      passing None h n = none_waits h n
      passing (Some (j, y)) h n = behind i j x y xs (λ t. absurd (both_ways (w x) n t)) h

      waiting : (o : Option (ℕ × X)) → Chosen w a (i + 1) xs o → w x ≡ true → Chosen w a i (x ∷ xs) (Some (ahead_of a i x o))
      waiting None h t = front i x xs t (λ k d l u. absurd (both_ways (w (get_or xs k d)) (h k d l) u))
      waiting (Some (j, y)) h t =
          elim (cases_Bool (a y x)) [
            | inl u ↦ rw u (behind i j x y xs (λ _. u) h)
            | inr u ↦ rw u (front i x xs t (λ k d l v. chain (get_or xs k d) y x (h.none_ahead k d l v) u))
          ]

  chosen : (i : ℕ) (xs : List X) → Chosen w a i xs (foremost_from w a i xs)
  unfolding foremost_from
  chosen i [] = λ k d l. absurd (let f : ⊥ = omega arith in f)
  chosen i (x ∷ xs) = chosen_more i x xs (foremost_from w a (i + 1) xs) (chosen (i + 1) xs)

  stands_of : (xs : List X) (o : Option (ℕ × X)) → Chosen w a 0 xs o → Foremost w a xs (length xs) (option_map (λ y. y.0) o)
  stands_of xs None h = h
  stands_of xs (Some (j, y)) h =
      let e : h.at ≡ j = omega (arith, h.place) in
      subst (λ b. Foremost w a xs (length xs) (Some b)) e (
        h.long,
        (λ d. rw (h.here d) h.waits),
        (λ k d l t. rw (h.here d) (h.none_ahead k d l t)),
        λ k d l t. rw (h.here d) (h.ahead_of_others k d l t),
      )

  pub foremost_stands : (xs : List X) → Foremost w a xs (length xs) (foremost_of w a xs)
  unfolding foremost_of
  foremost_stands xs = stands_of xs (foremost_from w a 0 xs) (chosen 0 xs)

  -- so what stands is what the definition gives
  pub foremost_is : (xs : List X) (o : Option ℕ) → Foremost w a xs (length xs) o → o ≡ foremost_of w a xs
  unfolding foremost_of foremost_from
  foremost_is [] None h = refl
  foremost_is [] (Some b) h = absurd (let f : ⊥ = omega (arith, h.0) in f)
  foremost_is (x ∷ xs) o h = foremost_one w a (x ∷ xs) (length (x ∷ xs)) x o (foremost_of w a (x ∷ xs)) h (foremost_stands (x ∷ xs))

-- == lists that are alike ==

-- a choice among records by what stands for them is the choice among themselves
module _ {X Y : Type 0} (f : X → Y) (w : X → Bool) (a : X → X → Bool) (w' : Y → Bool) (a' : Y → Y → Bool) (waits : (x : X) → w' (f x) ≡ w x) (aheads : (x y : X) → a' (f x) (f y) ≡ a x y) where
  abbrev along : ℕ × X → ℕ × Y
  along y = (y.0, f y.1)

  ahead_along : (i : ℕ) (x : X) (o : Option (ℕ × X)) → ahead_of a' i (f x) (option_map along o) ≡ along (ahead_of a i x o)
  ahead_along i x None = refl
  ahead_along i x (Some y) =
      ap (λ b. cond b (along y) (i, f x)) (aheads y.1 x) ∙ cond_both (a y.1 x) y (i, x) (λ z. cond (a y.1 x) (along y) (i, f x) ≡ along z)
      (λ t. cond-true (a y.1 x) (along y) (i, f x) t) (λ t. cond-false (a y.1 x) (along y) (i, f x) t)

  if_along : (b : Bool) (i : ℕ) (x : X) (o : Option (ℕ × X)) → ahead_if b a' i (f x) (option_map along o) ≡ option_map along (ahead_if b a i x o)
  if_along true i x o = ap Some (ahead_along i x o)
  if_along false i x o = refl

  from_along : (i : ℕ) (xs : List X) → foremost_from w' a' i (map f xs) ≡ option_map along (foremost_from w a i xs)
  unfolding foremost_from
  from_along i [] = refl
  from_along i (x ∷ xs) =
      (λ j. ahead_if (waits x j) a' i (f x) (from_along (i + 1) xs j)) ∙ if_along (w x) i x (foremost_from w a (i + 1) xs)

  place_along : (o : Option (ℕ × X)) → option_map (λ z. z.0) (option_map along o) ≡ option_map (λ z. z.0) o
  place_along None = refl
  place_along (Some y) = refl

  pub foremost_alike : (xs : List X) → foremost_of w' a' (map f xs) ≡ foremost_of w a xs
  unfolding foremost_of
  foremost_alike xs = ap (option_map (λ z. z.0)) (from_along 0 xs) ∙ place_along (foremost_from w a 0 xs)
